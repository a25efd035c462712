-- What a report's words and its file have to do with the operation that is worked for. Assumes nothing.
use mathlib.Core.Path.{◌≡◌, refl, sym, ap, subst, ◌∙◌}
use mathlib.Core.Bool.{Bool, true, false, not, cond, ◌&&◌, ◌||◌}
use mathlib.Core.List.{List, [], ◌∷◌}
use Prim.Native.Nat.{ℕ, zero, suc, ◌≤◌}
use native.Mathlib.Omega.{arith}
use lib.Dec.{eqb, ltb}
use lib.ListN.{length}
use borrow.Author.Tests.{eqb-true, ltb-false, lt-ltb}
use Rattle.area.specs.Lists.{any_of}
use Rattle.area.proofs.Walks.{true_not_false, or_left, or_right}
use Rattle.area.proofs.Marks.{cond_false}
use Rattle.channel.specs.declared.Op.{Op}
use Rattle.channel.specs.declared.Op.TheVariants.{Read, Write, Mark}
use Rattle.channel.specs.declared.Position.{Position}
use Rattle.channel.specs.declared.Request.{Request}
use Rattle.channel.specs.declared.Turn.{Turn}
use Rattle.channel.specs.declared.Turn.TheVariants.{Idle, Waiting, Displaced, Working}
use Rattle.channel.specs.declared.Channel.{Channel}
use Rattle.channel_outcomes.specs.declared.Verdict.{Verdict}
use Rattle.channel_outcomes.specs.declared.Verdict.TheVariants.{Refused, Repeats, Ends}
use Rattle.channel_outcomes.specs.declared.Ending.{Ending}
use Rattle.channel_outcomes.specs.declared.Ending.TheVariants.{Good, Opposite, MarkRead, MediumEnd, LostRedundancy, LostIncomplete}
use Rattle.channel_outcomes.specs.Positions.{cleaner_due}
use Rattle.channel_outcomes.specs.Rules.{op_number, good, redundancy, incomplete_word, file_mark, row_of, is_allowed, is_failure, is_permanent, is_noise, past_noise, next_attempt, good_ending, ending_of, table_verdict, verdict_of, ending_number, repeated_number, result_number}
use Rattle.channel.specs.Units.{position_at, turn_at, work_of, operation_at}
use Rattle.pack.specs.Histories.{is_repeat}
use Rattle.channel_turns.specs.Turns.{judge_turn, judge_of}
use Rattle.file.specs.declared.File.{File}
use Rattle.file_input.specs.Delivers.{has_full}
use Rattle.state_sound.specs.Requests.{requested, is_write, is_write_op}
use Rattle.state_sound.specs.Judged.{file_ready}
use Rattle.call_request.specs.declared.Effect.{Effect}
use Rattle.call_request.specs.declared.Effect.TheVariants.{Delivers, MeetsMark, GivesBack, Sends, Keeps}
use Rattle.call_request.specs.Effects.{op_effect, effect_of, is_delivery}
use Rattle.call_request.specs.Report.{is_idle_for, takes_no_words, effect_at}
use Rattle.demands_ledger.specs.Ledgers.{failed_by}
use Rattle.pack_request.proofs.Ready.{ready_facts}
use Rattle.pack_request.proofs.ReportTheorems.{Booked, again, ended}
use Rattle.std.specs.declared.option.Option.{Option}
use Rattle.std.specs.declared.option.Option.TheVariants.{Some, None}

-- ---- the words of a report that answers its request are a delivered block

good_read : (a : ℕ) → is_delivery (effect_of true (Some Read) (Ends (ending_of Read a 0))) ≡ true
unfolding ending_of
good_read a = go (eqb a 4)
  where
    go : (t : Bool) → is_delivery (effect_of true (Some Read) (Ends (cond t Opposite Good))) ≡ true
    go true = refl
    go false = refl

-- an operation that is repeated is answered 00 or 07
repeats_again : (p : Position) (q : Request) → is_repeat (repeated_number p q) ≡ true
unfolding repeated_number
repeats_again p q = go (cleaner_due p q)
  where
    go : (b : Bool) → is_repeat (cond b 7 0) ≡ true
    go true = refl
    go false = refl

-- what a read's report comes to: delivered, or repeated, or refused
abbrev Brings : Position → Verdict → Type 0
Brings p v = (is_delivery (effect_of true (Some Read) v) ≡ false) → is_repeat (result_number p v) ≡ true

fails : (p : Position) (e : Ending) (b : Bool) → is_delivery (effect_of true (Some Read) (Ends e)) ≡ true → (n : Request)
    → Brings p (cond b (Ends e) (Repeats n))
fails p e true d n h = true_not_false d h
fails p e false d n h = repeats_again p n

-- with an outcome that may carry words: good, redundancy and incomplete word; or a noise record
read_brings : (p : Position) (q : Request) (o l : ℕ) → q.op ≡ Read → ltb incomplete_word o ≡ false → Brings p (verdict_of q o l)
unfolding verdict_of table_verdict is_allowed row_of any_of ending_of
read_brings p q o l r small = past (is_noise q o l)
  where
    go : (op : Op) → op ≡ Read
        → Brings p (cond (is_allowed op o) (cond (not (is_failure o) || is_permanent q o) (Ends (ending_of op q.attempts o)) (Repeats (next_attempt q o))) (Refused 12))
    go Read e = by o small
      where
        by : (o : ℕ) → ltb incomplete_word o ≡ false
            → Brings p (cond (is_allowed Read o) (cond (not (is_failure o) || is_permanent q o) (Ends (ending_of Read q.attempts o)) (Repeats (next_attempt q o))) (Refused 12))
        by zero l = fails p (ending_of Read q.attempts 0) true (good_read q.attempts) (next_attempt q 0)
        by (suc zero) l = fails p LostRedundancy (is_permanent q 1) refl (next_attempt q 1)
        by (suc (suc zero)) l = fails p LostIncomplete (is_permanent q 2) refl (next_attempt q 2)
        by (suc (suc (suc n))) l = absurd (omega (arith, ltb-false incomplete_word (suc (suc (suc n))) l))
    go Write e = absurd (let k : ◌≡◌ {A = ℕ} 1 0 = ap op_number e in omega (arith, k))
    go Mark e = absurd (let k : ◌≡◌ {A = ℕ} 2 0 = ap op_number e in omega (arith, k))

    past : (b : Bool)
        → Brings p (cond b (Repeats (past_noise q)) (cond (is_allowed q.op o) (cond (not (is_failure o) || is_permanent q o) (Ends (ending_of q.op q.attempts o)) (Repeats (next_attempt q o))) (Refused 12)))
    past true h = repeats_again p (past_noise q)
    past false h = go q.op r h

turn_brings : (p : Position) (t : Turn) (o len : ℕ) → takes_no_words (work_of t) ≡ false → is_idle_for (work_of t) ≡ false → ltb incomplete_word o ≡ false
    → is_delivery (effect_of true (work_of t) (judge_turn t o len)) ≡ false → is_repeat (result_number p (judge_turn t o len)) ≡ true
turn_brings p Idle o len n i l d = true_not_false refl i
turn_brings p (Waiting q) o len n i l d = true_not_false refl i
turn_brings p (Displaced q) o len n i l d = true_not_false refl i
turn_brings p (Working q) o len n i l d = go q.op refl n
  where
    go : (op : Op) → q.op ≡ op → takes_no_words (Some op) ≡ false → is_repeat (result_number p (verdict_of q o len)) ≡ true
    go Read e t = read_brings p q o len e l (sym (ap (λ (op : Op). is_delivery (effect_of true (Some op) (verdict_of q o len))) e) ∙ d)
    go Write e t = true_not_false refl t
    go Mark e t = true_not_false refl t

-- "Words on a repeated attempt are dropped.": of a report that delivers nothing no words are kept
pub words_kept : (c : Channel) (u outcome len : ℕ) (words : List ℕ)
    → (ltb 0 (length words) && (ltb incomplete_word outcome || takes_no_words (operation_at c u))) ≡ false
    → is_idle_for (operation_at c u) ≡ false → is_delivery (effect_at c u outcome len (length words)) ≡ false
    → cond (not (is_repeat (result_number (position_at c u) (judge_of c u outcome len)))) words [] ≡ []
unfolding operation_at judge_of
words_kept c u outcome len [] r i d = go (is_repeat (result_number (position_at c u) (judge_of c u outcome len)))
  where
    go : (b : Bool) → ◌≡◌ {A = List ℕ} (cond (not b) [] []) []
    go true = refl
    go false = refl
words_kept c u outcome len (x ∷ words) r i d =
    let some : ltb 0 (suc (length words)) ≡ true = lt-ltb 0 (suc (length words)) (omega arith) in
    let both : (ltb incomplete_word outcome || takes_no_words (work_of (turn_at c u))) ≡ false =
    sym (ap (λ (b : Bool). b && (ltb incomplete_word outcome || takes_no_words (work_of (turn_at c u)))) some) ∙ r in
    let none : is_delivery (effect_of true (work_of (turn_at c u)) (judge_turn (turn_at c u) outcome len)) ≡ false =
    sym (ap (λ (b : Bool). is_delivery (effect_of b (work_of (turn_at c u)) (judge_turn (turn_at c u) outcome len))) some) ∙ d in
    cond_false (x ∷ words) []
    (ap not (turn_brings (position_at c u) (turn_at c u) outcome len (or_right (ltb incomplete_word outcome) _ both) i (or_left (ltb incomplete_word outcome) _ both) none))

-- what is delivered answers its request, and the result tells the error of the read
abbrev failed_of : Effect → ℕ
failed_of (Delivers failed) = failed
failed_of MeetsMark = 0
failed_of GivesBack = 0
failed_of Sends = 0
failed_of Keeps = 0

pub record Tells (p : Position) (v : Verdict) (failed : ℕ) : Type 0 where
  pub answers : not (is_repeat (result_number p v)) ≡ true
  pub error : failed_by (result_number p v) ≡ failed

told_by_lem : (p : Position) (some : Bool) (x : Option Op) (v : Verdict) → is_delivery (effect_of some x v) ≡ true → Tells p v (failed_of (effect_of some x v))
told_by_lem p some x (Refused n) d = true_not_false d refl
told_by_lem p some x (Repeats q) d = true_not_false d refl
told_by_lem p some (Some Read) (Ends Good) d = record { answers = refl; error = refl }
told_by_lem p some (Some Read) (Ends Opposite) d = record { answers = refl; error = refl }
told_by_lem p some (Some Read) (Ends MarkRead) d = true_not_false d refl
told_by_lem p some (Some Read) (Ends MediumEnd) d = true_not_false d refl
told_by_lem p true (Some Read) (Ends LostRedundancy) d = record { answers = refl; error = refl }
told_by_lem p false (Some Read) (Ends LostRedundancy) d = true_not_false d refl
told_by_lem p true (Some Read) (Ends LostIncomplete) d = record { answers = refl; error = refl }
told_by_lem p false (Some Read) (Ends LostIncomplete) d = true_not_false d refl
told_by_lem p some (Some Write) (Ends Good) d = true_not_false d refl
told_by_lem p some (Some Write) (Ends Opposite) d = true_not_false d refl
told_by_lem p some (Some Write) (Ends MarkRead) d = true_not_false d refl
told_by_lem p some (Some Write) (Ends MediumEnd) d = true_not_false d refl
told_by_lem p some (Some Write) (Ends LostRedundancy) d = true_not_false d refl
told_by_lem p some (Some Write) (Ends LostIncomplete) d = true_not_false d refl
told_by_lem p some (Some Mark) (Ends e) d = true_not_false d refl
told_by_lem p some None (Ends e) d = true_not_false d refl

pub delivery_told : (c : Channel) (u outcome len n failed : ℕ) → effect_at c u outcome len n ≡ Delivers failed
    → Tells (position_at c u) (judge_of c u outcome len) failed
delivery_told c u outcome len n failed e =
    subst (Tells (position_at c u) (judge_of c u outcome len)) (ap failed_of e)
    (told_by_lem (position_at c u) (ltb 0 n) (operation_at c u) (judge_of c u outcome len) (ap is_delivery e))

-- ---- a mark is read by the report that answers 03

abbrev pub meets : Effect → Bool
meets (Delivers failed) = false
meets MeetsMark = true
meets GivesBack = false
meets Sends = false
meets Keeps = false

good_small : (op : Op) (a : ℕ) → ending_number (good_ending op a) ≤ 2
good_small Read a = go (eqb a 4)
  where
    go : (t : Bool) → ending_number (cond t Opposite Good) ≤ 2
    go true = omega arith
    go false = omega arith
good_small Write a = omega arith
good_small Mark a = omega arith

mark_outcome : (op : Op) (a o : ℕ) → ending_of op a o ≡ MarkRead → o ≡ 3
unfolding ending_of
mark_outcome op a o = go (eqb o good) (eqb o redundancy) (eqb o incomplete_word) (eqb o file_mark) refl
  where
    go : (x y z t : Bool) → eqb o file_mark ≡ t
        → cond x (good_ending op a) (cond y LostRedundancy (cond z LostIncomplete (cond t MarkRead MediumEnd))) ≡ MarkRead → o ≡ 3
    go true y z t q e = absurd (let n : ending_number (good_ending op a) ≡ 3 = ap ending_number e in omega (arith, good_small op a))
    go false true z t q e = absurd (let n : ◌≡◌ {A = ℕ} 5 3 = ap ending_number e in omega arith)
    go false false true t q e = absurd (let n : ◌≡◌ {A = ℕ} 6 3 = ap ending_number e in omega arith)
    go false false false true q e = eqb-true o 3 q
    go false false false false q e = absurd (let n : ◌≡◌ {A = ℕ} 4 3 = ap ending_number e in omega arith)

-- a read alone meets one
mark_read : (q : Request) (o l : ℕ) → verdict_of q o l ≡ Ends MarkRead → is_allowed q.op 3 ≡ true
unfolding verdict_of table_verdict
mark_read q o l = go (is_noise q o l) (is_allowed q.op o) (not (is_failure o) || is_permanent q o) refl
  where
    go : (n a b : Bool) → is_allowed q.op o ≡ a
        → cond n (Repeats (past_noise q)) (cond a (cond b (Ends (ending_of q.op q.attempts o)) (Repeats (next_attempt q o))) (Refused 12)) ≡ Ends MarkRead
        → is_allowed q.op 3 ≡ true
    go true a b p e = absurd (let z : ◌≡◌ {A = ℕ} 0 1 = cc in omega arith)
    go false true true p e =
        let k : ending_of q.op q.attempts o ≡ MarkRead = cc in
        sym (ap (is_allowed q.op) (mark_outcome q.op q.attempts o k)) ∙ p
    go false true false p e = absurd (let z : ◌≡◌ {A = ℕ} 0 1 = cc in omega arith)
    go false false b p e = absurd (let z : ◌≡◌ {A = ℕ} 0 1 = cc in omega arith)

-- an operation that is repeated meets none
repeats_no_mark : (p : Position) (q : Request) → eqb (repeated_number p q) 3 ≡ false
unfolding repeated_number
repeats_no_mark p q = go (cleaner_due p q)
  where
    go : (b : Bool) → eqb (cond b 7 0) 3 ≡ false
    go true = refl
    go false = refl

ending_met : (some : Bool) (op : Op) (e : Ending) → (e ≡ MarkRead → is_allowed op 3 ≡ true) → eqb (ending_number e) 3 ≡ meets (op_effect some op e)
unfolding is_allowed row_of any_of
ending_met some Read Good h = refl
ending_met some Read Opposite h = refl
ending_met some Read MarkRead h = refl
ending_met some Read MediumEnd h = refl
ending_met true Read LostRedundancy h = refl
ending_met false Read LostRedundancy h = refl
ending_met true Read LostIncomplete h = refl
ending_met false Read LostIncomplete h = refl
ending_met some Write Good h = refl
ending_met some Write Opposite h = refl
ending_met some Write MarkRead h = true_not_false (h refl) refl
ending_met some Write MediumEnd h = refl
ending_met some Write LostRedundancy h = refl
ending_met some Write LostIncomplete h = refl
ending_met some Mark Good h = refl
ending_met some Mark Opposite h = refl
ending_met some Mark MarkRead h = true_not_false (h refl) refl
ending_met some Mark MediumEnd h = refl
ending_met some Mark LostRedundancy h = refl
ending_met some Mark LostIncomplete h = refl

pub mark_met : (c : Channel) (u outcome len n : ℕ) → Booked c u outcome len → eqb (result_number (position_at c u) (judge_of c u outcome len)) 3 ≡ meets (effect_at c u outcome len n)
unfolding judge_of operation_at
mark_met c u outcome len n (again r q t j) =
    ap (λ (v : Verdict). eqb (result_number (position_at c u) v) 3) j ∙ repeats_no_mark (position_at c u) q
    ∙ sym (ap (λ (v : Verdict). meets (effect_of (ltb 0 n) (operation_at c u) v)) j)
mark_met c u outcome len n (ended r e t j) =
    ap (λ (v : Verdict). eqb (result_number (position_at c u) v) 3) j
    ∙ ending_met (ltb 0 n) r.op e (λ m. mark_read r outcome len (sym (ap (λ (x : Turn). judge_turn x outcome len) t) ∙ j ∙ ap Ends m))
    ∙ sym (ap (λ (v : Verdict). meets (effect_of (ltb 0 n) (operation_at c u) v)) j ∙ ap (λ (x : Turn). meets (effect_of (ltb 0 n) (work_of x) (Ends e))) t)

-- ---- a write's file is an output file with a full block

pub write_ready : (t : Turn) (f : File) → is_write (work_of t) ≡ true → file_ready (requested t) f ≡ true → (f.output ≡ true) × (has_full f ≡ true)
write_ready Idle f e r = true_not_false e refl
write_ready (Waiting q) f e r = true_not_false e refl
write_ready (Displaced q) f e r = true_not_false e refl
write_ready (Working q) f e r = go q.op e r
  where
    go : (op : Op) → is_write_op op ≡ true → file_ready (Some op) f ≡ true → (f.output ≡ true) × (has_full f ≡ true)
    go Read e r = true_not_false e refl
    go Write e r = let R = ready_facts (Some Write) f r in (R.way, R.block)
    go Mark e r = true_not_false e refl
