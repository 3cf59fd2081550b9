mod SupportTexts
