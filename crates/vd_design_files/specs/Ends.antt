-- What the ends of single steps are to all files.
use Rattle.vd_bytes.specs.declared.answers.Limit.TheVariants as limits
use Rattle.vd_bytes.specs.declared.answers.Refusal.{Refusal}
use Rattle.vd_bytes.specs.declared.answers.Refusal.TheVariants as refusal
use Rattle.vd_shapes.specs.declared.reading.GrammarEnd.{GrammarEnd}
use Rattle.vd_shapes.specs.declared.reading.GrammarEnd.TheVariants as grammar
use Rattle.vd_design_files.specs.declared.answers.DesignEnd.{DesignEnd}
use Rattle.vd_design_files.specs.declared.answers.DesignEnd.TheVariants as end

abbrev pub end_of_refusal : Refusal → DesignEnd
end_of_refusal (refusal.Refused x) = end.Refused x
end_of_refusal refusal.Memory = end.Memory

abbrev pub end_of_grammar : GrammarEnd → DesignEnd
end_of_grammar (grammar.Refused x) = end.Refused x
end_of_grammar grammar.Nesting = end.Limit limits.Nesting
end_of_grammar grammar.Memory = end.Memory
