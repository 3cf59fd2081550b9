pub mod Alone
pub mod ConversionLemmas
pub mod Faithful
pub mod LaidOut
pub mod OneConversion
