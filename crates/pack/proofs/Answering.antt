-- The code's answer of each group of calls is the answer of `answer_of`. Assumes nothing.
use Prim.Native.Nat.{ℕ}
use mathlib.Core.Path.{◌≡◌, ap, ap₂, ◌∙◌}
use mathlib.Core.List.{List}
use Rattle.file_input.specs.Gets.{got_start, got_words}
use Rattle.file_input.specs.Histories.{shown}
use Rattle.state.specs.declared.Called.{Called}
use Rattle.pack_request.specs.declared.Asking.{Asking}
use Rattle.pack_request.specs.declared.Reporting.{Reporting}
use Rattle.pack_routine.specs.declared.Ran.{Ran}
use Rattle.pack_record.specs.declared.Getting.{Getting}
use Rattle.pack.specs.declared.AnyAnswer.{AnyAnswer}
use Rattle.pack.specs.declared.Adds.TheVariants.{Found}
use Rattle.pack.specs.Calls.{plainly, asked, told, given, given_back, running_now}
use Rattle.pack.specs.Answers.{answer_by, plain_answer, ask_answer, report_answer, get_answer, return_answer, running_answer}

-- each with the area xs that the call left
module _ (x : AnyAnswer) (xs area : List ℕ) (e : xs ≡ area) where
  pub plain_as : (r q : Called) → x ≡ plain_answer r → r ≡ q → answer_by x xs ≡ plainly q area
  plain_as r q d f = ap₂ answer_by (d ∙ ap plain_answer f) e

  pub asked_as : (r q : Asking) → x ≡ ask_answer r → r ≡ q → answer_by x xs ≡ asked q area
  asked_as r q d f = ap₂ answer_by (d ∙ ap ask_answer f) e

  pub told_as : (r q : Reporting) → x ≡ report_answer r → r ≡ q → answer_by x xs ≡ told q area
  told_as r q d f = ap₂ answer_by (d ∙ ap report_answer f) e

  pub given_as : (r q : Getting) → x ≡ get_answer r → r ≡ q → answer_by x xs ≡ given q (shown area q.got) area
  given_as r q d f = ap₂ answer_by (d ∙ ap get_answer f) e

  pub returned_as : (r q : Ran) → x ≡ return_answer r → r ≡ q → answer_by x xs ≡ given_back q area
  returned_as r q d f = ap₂ answer_by (d ∙ ap return_answer f) e

  pub runs_as : (r q : Ran) → x ≡ running_answer r → r ≡ q → answer_by x xs ≡ running_now q area
  runs_as r q d f = ap₂ answer_by (d ∙ ap running_answer f) e

-- where the words of a get begin, and how many they are
pub get_answer_lem : (r : Getting) (start count : ℕ) → start ≡ got_start r.got → count ≡ got_words r.got
    → record { refusal = r.refusal; adds = Found r.got; start = start; count = count; state = r.state } ≡ get_answer r
get_answer_lem r start count d f =
    ap₂ (λ (i n : ℕ). record { refusal = r.refusal; adds = Found r.got; start = i; count = n; state = r.state }) d f
