-- What is to be done for a command, and for words.
use Rattle.std.proofs.Common.{◌≡◌, ◌≢◌, ℕ, List, refl, sym, ap, subst, Some, None}
use Rattle.vd_words.specs.declared.command.Mode.{Mode}
use Rattle.vd_words.specs.declared.command.Mode.TheVariants.{Convert, Check, Run19, Run93}
use Rattle.vd_words.specs.Commands.{Meaning, meaning_of}
use Rattle.vd_command.specs.declared.action.Action.{Action}
use Rattle.vd_command.specs.Words.{refusing, job_in, job_of, job_of_command, job_of_meaning, IsActionFor}

-- the program has no other mode
pub no_job : (mode : Mode) (tool : List ℕ) (files : List (List ℕ)) → mode ≢ Convert → mode ≢ Check → job_in mode tool files ≡ refusing
no_job Convert tool files one other = absurd (one refl)
no_job Check tool files one other = absurd (other refl)
no_job Run19 tool files one other = refl
no_job Run93 tool files one other = refl

job_as : (words : List (List ℕ)) (m : Meaning) → meaning_of words ≡ Some m → job_of words ≡ job_of_meaning m
unfolding job_of
job_as words m e = ap job_of_command e

-- what is to be done for a command is that for the words that mean it
pub action_as : (words : List (List ℕ)) (m : Meaning) → meaning_of words ≡ Some m → (a : Action) → IsActionFor a (job_of_meaning m) → IsActionFor a (job_of words)
action_as words m e a is = subst (IsActionFor a) (sym (job_as words m e)) is

pub none_taken : (words : List (List ℕ)) → meaning_of words ≡ None → job_of words ≡ refusing
unfolding job_of
none_taken words e = ap job_of_command e
