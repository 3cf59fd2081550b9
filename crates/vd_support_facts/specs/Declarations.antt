-- The declarations of the support package. Written by tools/resolved-trees from examples/support/vdown_support.vhd, which is of revision 1993.
use Rattle.std.specs.Prelude.{List, [], ◌∷◌, Some, None, codes}
use Rattle.vd_declarations.specs.declared.classes.Class.TheVariants as class
use Rattle.vd_declarations.specs.declared.declarations.Declaration.{Declaration}
use Rattle.vd_predefined.specs.Entries.{declared}
use Rattle.vd_predefined.specs.declared.numbers.TheConstants.{BOOLEAN, BIT, INTEGER, STRING, BIT_VECTOR, STD_ULOGIC, STD_ULOGIC_VECTOR}

abbrev pub declarations : List Declaration
declarations =
    declared (class.LibraryName 2) (codes "ieee") None []
    ∷ declared class.Package (codes "vdown_support") None []
    ∷ declared class.Parameter (codes "a") (Some STD_ULOGIC) []
    ∷ declared class.Function (codes "vd_cond") (Some BOOLEAN) (389 ∷ [])
    ∷ declared class.Parameter (codes "l") (Some STD_ULOGIC) []
    ∷ declared class.Parameter (codes "r") (Some STD_ULOGIC) []
    ∷ declared class.Function (codes "vd_eq") (Some STD_ULOGIC) (391 ∷ 392 ∷ [])
    ∷ declared class.Parameter (codes "l") (Some STD_ULOGIC_VECTOR) []
    ∷ declared class.Parameter (codes "r") (Some STD_ULOGIC_VECTOR) []
    ∷ declared class.Function (codes "vd_eqv") (Some STD_ULOGIC) (394 ∷ 395 ∷ [])
    ∷ declared class.Parameter (codes "l") (Some BIT) []
    ∷ declared class.Parameter (codes "r") (Some BIT) []
    ∷ declared class.Function (codes "vd_eqb") (Some BIT) (397 ∷ 398 ∷ [])
    ∷ declared class.Parameter (codes "l") (Some BIT_VECTOR) []
    ∷ declared class.Parameter (codes "r") (Some BIT_VECTOR) []
    ∷ declared class.Function (codes "vd_eqbv") (Some BIT) (400 ∷ 401 ∷ [])
    ∷ declared class.Parameter (codes "l") (Some BIT) []
    ∷ declared class.Parameter (codes "r") (Some BIT) []
    ∷ declared class.Function (codes "vd_ltb") (Some BIT) (403 ∷ 404 ∷ [])
    ∷ declared class.Parameter (codes "l") (Some BIT) []
    ∷ declared class.Parameter (codes "r") (Some BIT) []
    ∷ declared class.Function (codes "vd_leb") (Some BIT) (406 ∷ 407 ∷ [])
    ∷ declared class.Parameter (codes "l") (Some BIT) []
    ∷ declared class.Parameter (codes "r") (Some BIT) []
    ∷ declared class.Function (codes "vd_gtb") (Some BIT) (409 ∷ 410 ∷ [])
    ∷ declared class.Parameter (codes "l") (Some BIT) []
    ∷ declared class.Parameter (codes "r") (Some BIT) []
    ∷ declared class.Function (codes "vd_geb") (Some BIT) (412 ∷ 413 ∷ [])
    ∷ declared class.Parameter (codes "a") (Some STD_ULOGIC_VECTOR) []
    ∷ declared class.Function (codes "vd_rand") (Some STD_ULOGIC) (415 ∷ [])
    ∷ declared class.Parameter (codes "a") (Some STD_ULOGIC_VECTOR) []
    ∷ declared class.Function (codes "vd_ror1") (Some STD_ULOGIC) (417 ∷ [])
    ∷ declared class.Parameter (codes "a") (Some STD_ULOGIC_VECTOR) []
    ∷ declared class.Function (codes "vd_rxor") (Some STD_ULOGIC) (419 ∷ [])
    ∷ declared class.Parameter (codes "a") (Some BIT_VECTOR) []
    ∷ declared class.Function (codes "vd_brand") (Some BIT) (421 ∷ [])
    ∷ declared class.Parameter (codes "a") (Some BIT_VECTOR) []
    ∷ declared class.Function (codes "vd_bror") (Some BIT) (423 ∷ [])
    ∷ declared class.Parameter (codes "a") (Some BIT_VECTOR) []
    ∷ declared class.Function (codes "vd_brxor") (Some BIT) (425 ∷ [])
    ∷ declared class.Parameter (codes "l") (Some STD_ULOGIC_VECTOR) []
    ∷ declared class.Parameter (codes "r") (Some STD_ULOGIC) []
    ∷ declared class.Function (codes "vd_and_vs") (Some STD_ULOGIC_VECTOR) (427 ∷ 428 ∷ [])
    ∷ declared class.Parameter (codes "l") (Some STD_ULOGIC_VECTOR) []
    ∷ declared class.Parameter (codes "r") (Some STD_ULOGIC) []
    ∷ declared class.Function (codes "vd_or_vs") (Some STD_ULOGIC_VECTOR) (430 ∷ 431 ∷ [])
    ∷ declared class.Parameter (codes "l") (Some STD_ULOGIC_VECTOR) []
    ∷ declared class.Parameter (codes "r") (Some STD_ULOGIC) []
    ∷ declared class.Function (codes "vd_xor_vs") (Some STD_ULOGIC_VECTOR) (433 ∷ 434 ∷ [])
    ∷ declared class.Parameter (codes "l") (Some STD_ULOGIC) []
    ∷ declared class.Parameter (codes "r") (Some STD_ULOGIC_VECTOR) []
    ∷ declared class.Function (codes "vd_and_sv") (Some STD_ULOGIC_VECTOR) (436 ∷ 437 ∷ [])
    ∷ declared class.Parameter (codes "l") (Some STD_ULOGIC) []
    ∷ declared class.Parameter (codes "r") (Some STD_ULOGIC_VECTOR) []
    ∷ declared class.Function (codes "vd_or_sv") (Some STD_ULOGIC_VECTOR) (439 ∷ 440 ∷ [])
    ∷ declared class.Parameter (codes "l") (Some STD_ULOGIC) []
    ∷ declared class.Parameter (codes "r") (Some STD_ULOGIC_VECTOR) []
    ∷ declared class.Function (codes "vd_xor_sv") (Some STD_ULOGIC_VECTOR) (442 ∷ 443 ∷ [])
    ∷ declared class.Parameter (codes "l") (Some BIT_VECTOR) []
    ∷ declared class.Parameter (codes "r") (Some BIT) []
    ∷ declared class.Function (codes "vd_band_vs") (Some BIT_VECTOR) (445 ∷ 446 ∷ [])
    ∷ declared class.Parameter (codes "l") (Some BIT_VECTOR) []
    ∷ declared class.Parameter (codes "r") (Some BIT) []
    ∷ declared class.Function (codes "vd_bor_vs") (Some BIT_VECTOR) (448 ∷ 449 ∷ [])
    ∷ declared class.Parameter (codes "l") (Some BIT_VECTOR) []
    ∷ declared class.Parameter (codes "r") (Some BIT) []
    ∷ declared class.Function (codes "vd_bxor_vs") (Some BIT_VECTOR) (451 ∷ 452 ∷ [])
    ∷ declared class.Parameter (codes "l") (Some BIT) []
    ∷ declared class.Parameter (codes "r") (Some BIT_VECTOR) []
    ∷ declared class.Function (codes "vd_band_sv") (Some BIT_VECTOR) (454 ∷ 455 ∷ [])
    ∷ declared class.Parameter (codes "l") (Some BIT) []
    ∷ declared class.Parameter (codes "r") (Some BIT_VECTOR) []
    ∷ declared class.Function (codes "vd_bor_sv") (Some BIT_VECTOR) (457 ∷ 458 ∷ [])
    ∷ declared class.Parameter (codes "l") (Some BIT) []
    ∷ declared class.Parameter (codes "r") (Some BIT_VECTOR) []
    ∷ declared class.Function (codes "vd_bxor_sv") (Some BIT_VECTOR) (460 ∷ 461 ∷ [])
    ∷ declared class.Parameter (codes "l") (Some STD_ULOGIC_VECTOR) []
    ∷ declared class.Parameter (codes "r") (Some INTEGER) []
    ∷ declared class.Function (codes "vd_sll") (Some STD_ULOGIC_VECTOR) (463 ∷ 464 ∷ [])
    ∷ declared class.Parameter (codes "l") (Some STD_ULOGIC_VECTOR) []
    ∷ declared class.Parameter (codes "r") (Some INTEGER) []
    ∷ declared class.Function (codes "vd_srl") (Some STD_ULOGIC_VECTOR) (466 ∷ 467 ∷ [])
    ∷ declared class.Parameter (codes "l") (Some STD_ULOGIC_VECTOR) []
    ∷ declared class.Parameter (codes "r") (Some INTEGER) []
    ∷ declared class.Function (codes "vd_rol") (Some STD_ULOGIC_VECTOR) (469 ∷ 470 ∷ [])
    ∷ declared class.Parameter (codes "l") (Some STD_ULOGIC_VECTOR) []
    ∷ declared class.Parameter (codes "r") (Some INTEGER) []
    ∷ declared class.Function (codes "vd_ror") (Some STD_ULOGIC_VECTOR) (472 ∷ 473 ∷ [])
    ∷ declared class.Parameter (codes "a") (Some STD_ULOGIC) []
    ∷ declared class.Function (codes "vd_str") (Some STRING) (475 ∷ [])
    ∷ declared class.Parameter (codes "a") (Some STD_ULOGIC_VECTOR) []
    ∷ declared class.Function (codes "vd_strv") (Some STRING) (477 ∷ [])
    ∷ declared class.Parameter (codes "a") (Some STD_ULOGIC_VECTOR) []
    ∷ declared class.Function (codes "vd_dash") (Some BOOLEAN) (479 ∷ [])
    ∷ declared class.Constant (codes "first") (Some STD_ULOGIC_VECTOR) []
    ∷ declared class.Constant (codes "second") (Some STD_ULOGIC_VECTOR) []
    ∷ declared class.Variable (codes "result") (Some STD_ULOGIC) []
    ∷ declared class.LoopParameter (codes "i") (Some INTEGER) []
    ∷ declared class.Constant (codes "first") (Some BIT_VECTOR) []
    ∷ declared class.Constant (codes "second") (Some BIT_VECTOR) []
    ∷ declared class.Variable (codes "result") (Some BIT) []
    ∷ declared class.LoopParameter (codes "i") (Some INTEGER) []
    ∷ declared class.Constant (codes "elements") (Some STD_ULOGIC_VECTOR) []
    ∷ declared class.Variable (codes "result") (Some STD_ULOGIC) []
    ∷ declared class.LoopParameter (codes "i") (Some INTEGER) []
    ∷ declared class.Constant (codes "elements") (Some STD_ULOGIC_VECTOR) []
    ∷ declared class.Variable (codes "result") (Some STD_ULOGIC) []
    ∷ declared class.LoopParameter (codes "i") (Some INTEGER) []
    ∷ declared class.Constant (codes "elements") (Some STD_ULOGIC_VECTOR) []
    ∷ declared class.Variable (codes "result") (Some STD_ULOGIC) []
    ∷ declared class.LoopParameter (codes "i") (Some INTEGER) []
    ∷ declared class.Constant (codes "elements") (Some BIT_VECTOR) []
    ∷ declared class.Variable (codes "result") (Some BIT) []
    ∷ declared class.LoopParameter (codes "i") (Some INTEGER) []
    ∷ declared class.Constant (codes "elements") (Some BIT_VECTOR) []
    ∷ declared class.Variable (codes "result") (Some BIT) []
    ∷ declared class.LoopParameter (codes "i") (Some INTEGER) []
    ∷ declared class.Constant (codes "elements") (Some BIT_VECTOR) []
    ∷ declared class.Variable (codes "result") (Some BIT) []
    ∷ declared class.LoopParameter (codes "i") (Some INTEGER) []
    ∷ declared class.Constant (codes "elements") (Some STD_ULOGIC_VECTOR) []
    ∷ declared class.Constant (codes "other") (Some STD_ULOGIC_VECTOR) []
    ∷ declared class.Constant (codes "elements") (Some STD_ULOGIC_VECTOR) []
    ∷ declared class.Constant (codes "other") (Some STD_ULOGIC_VECTOR) []
    ∷ declared class.Constant (codes "elements") (Some STD_ULOGIC_VECTOR) []
    ∷ declared class.Constant (codes "other") (Some STD_ULOGIC_VECTOR) []
    ∷ declared class.Constant (codes "elements") (Some STD_ULOGIC_VECTOR) []
    ∷ declared class.Constant (codes "other") (Some STD_ULOGIC_VECTOR) []
    ∷ declared class.Constant (codes "elements") (Some STD_ULOGIC_VECTOR) []
    ∷ declared class.Constant (codes "other") (Some STD_ULOGIC_VECTOR) []
    ∷ declared class.Constant (codes "elements") (Some STD_ULOGIC_VECTOR) []
    ∷ declared class.Constant (codes "other") (Some STD_ULOGIC_VECTOR) []
    ∷ declared class.Constant (codes "elements") (Some BIT_VECTOR) []
    ∷ declared class.Constant (codes "other") (Some BIT_VECTOR) []
    ∷ declared class.Constant (codes "elements") (Some BIT_VECTOR) []
    ∷ declared class.Constant (codes "other") (Some BIT_VECTOR) []
    ∷ declared class.Constant (codes "elements") (Some BIT_VECTOR) []
    ∷ declared class.Constant (codes "other") (Some BIT_VECTOR) []
    ∷ declared class.Constant (codes "elements") (Some BIT_VECTOR) []
    ∷ declared class.Constant (codes "other") (Some BIT_VECTOR) []
    ∷ declared class.Constant (codes "elements") (Some BIT_VECTOR) []
    ∷ declared class.Constant (codes "other") (Some BIT_VECTOR) []
    ∷ declared class.Constant (codes "elements") (Some BIT_VECTOR) []
    ∷ declared class.Constant (codes "other") (Some BIT_VECTOR) []
    ∷ declared class.Constant (codes "bounds") (Some STD_ULOGIC_VECTOR) []
    ∷ declared class.Constant (codes "elements") (Some STD_ULOGIC_VECTOR) []
    ∷ declared class.Variable (codes "result") (Some STD_ULOGIC_VECTOR) []
    ∷ declared class.LoopParameter (codes "i") (Some INTEGER) []
    ∷ declared class.Constant (codes "bounds") (Some STD_ULOGIC_VECTOR) []
    ∷ declared class.Constant (codes "elements") (Some STD_ULOGIC_VECTOR) []
    ∷ declared class.Variable (codes "result") (Some STD_ULOGIC_VECTOR) []
    ∷ declared class.Variable (codes "count") (Some INTEGER) []
    ∷ declared class.LoopParameter (codes "i") (Some INTEGER) []
    ∷ declared class.Constant (codes "image") (Some STRING) []
    ∷ declared class.Constant (codes "bounds") (Some STD_ULOGIC_VECTOR) []
    ∷ declared class.Constant (codes "elements") (Some STD_ULOGIC_VECTOR) []
    ∷ declared class.Variable (codes "result") (Some STRING) []
    ∷ declared class.LoopParameter (codes "i") (Some INTEGER) []
    ∷ declared class.Constant (codes "elements") (Some STD_ULOGIC_VECTOR) []
    ∷ declared class.LoopParameter (codes "i") (Some INTEGER) [] ∷ []
