-- The code's table judges every request as document 01's table does. Assumes nothing.
use mathlib.Core.Path.{◌≡◌, refl, ap, sym, ◌∙◌}
use mathlib.Core.Bool.{Bool, true, false, cond, ◌&&◌, ◌||◌, or-true}
use mathlib.Core.List.{List, [], ◌∷◌}
use Prim.Native.Nat.{ℕ, zero, suc, ◌≤◌, ◌<◌}
use native.Mathlib.Omega.{arith}
use lib.Dec.{leb, ltb, eqb, leb-zero}
use lib.ListN.{get_or}
use borrow.Author.Tests.{leb-false, ltb-true, eqb-true, eq-eqb, ne_eqb}
use Rattle.area.proofs.Walks.{or_left, or_right, and_left, and_right}
use Rattle.area.specs.Lists.{any_of}
use Rattle.channel.specs.declared.Op.{Op}
use Rattle.channel.specs.declared.Op.TheVariants.{Read, Write, Mark}
use Rattle.channel.specs.declared.Request.{Request}
use Rattle.channel_outcomes.specs.declared.Ending.TheVariants.{MediumEnd}
use Rattle.channel_outcomes.specs.declared.Verdict.{Verdict}
use Rattle.channel_outcomes.specs.declared.Verdict.TheVariants.{Refused, Repeats, Ends}
use Rattle.channel_outcomes.specs.Rules.{op_number, incomplete_word, row_of, is_allowed, is_permanent, is_noise, past_noise, next_attempt, ending_of, table_verdict, verdict_of}

-- the table of the code
abbrev pub rules : List (List ℕ)
rules = (0 ∷ 101 ∷ 101 ∷ 0 ∷ 255 ∷ []) ∷ (0 ∷ 27 ∷ 0 ∷ 255 ∷ 0 ∷ []) ∷ (0 ∷ 27 ∷ 255 ∷ 255 ∷ 0 ∷ []) ∷ []

abbrev pub limit_at : Op → ℕ → ℕ
limit_at op outcome = get_or (get_or rules (op_number op) []) outcome 0

-- the entry as the code reads it, at the row that it has found
pub entry_at : (q : Request) (outcome row : ℕ) → row ≡ op_number q.op → get_or (get_or rules row []) outcome 0 ≡ limit_at q.op outcome
entry_at q outcome row e = ap (λ (i : ℕ). get_or (get_or rules i []) outcome 0) e

-- the outcome ends the operation, by its entry k of the table
abbrev pub ends_by : ℕ → Request → ℕ → Bool
ends_by k q outcome = leb k q.attempts || (eqb outcome incomplete_word && leb 1 q.incomplete)

abbrev pub judged_by : ℕ → Request → ℕ → Verdict
judged_by k q outcome =
    cond (eqb k 255) (Refused 12) (cond (ends_by k q outcome) (Ends (ending_of q.op q.attempts outcome)) (Repeats (next_attempt q outcome)))

pub row_below : (op : Op) → op_number op < 3
row_below Read = omega arith
row_below Write = omega arith
row_below Mark = omega arith

below_five : (P : ℕ → Type 0) → P 0 → P 1 → P 2 → P 3 → P 4 → (k : ℕ) → k < 5 → P k
below_five P a b c d e zero h = a
below_five P a b c d e (suc zero) h = b
below_five P a b c d e (suc (suc zero)) h = c
below_five P a b c d e (suc (suc (suc zero))) h = d
below_five P a b c d e (suc (suc (suc (suc zero)))) h = e
below_five P a b c d e (suc (suc (suc (suc (suc k))))) h = absurd (omega arith)

pub limit_fits_lem : (op : Op) (outcome : ℕ) → outcome < 5 → limit_at op outcome ≤ 255
limit_fits_lem Read = below_five (λ k. limit_at Read k ≤ 255) (omega arith) (omega arith) (omega arith) (omega arith) (omega arith)
limit_fits_lem Write = below_five (λ k. limit_at Write k ≤ 255) (omega arith) (omega arith) (omega arith) (omega arith) (omega arith)
limit_fits_lem Mark = below_five (λ k. limit_at Mark k ≤ 255) (omega arith) (omega arith) (omega arith) (omega arith) (omega arith)

module _ (urgent : Bool) (a i n : ℕ) where
  abbrev of_op : Op → Request
  of_op op = record { op = op; priority = urgent; attempts = a; incomplete = i; noise = n }

  abbrev Judged : Op → ℕ → Type 0
  Judged op outcome = table_verdict (of_op op) outcome ≡ judged_by (limit_at op outcome) (of_op op) outcome

  judged : (op : Op) (outcome : ℕ) → outcome < 5 → Judged op outcome
  unfolding table_verdict is_allowed is_permanent any_of row_of
  judged Read = below_five (Judged Read) (rw (leb-zero a)) refl refl (rw (leb-zero a)) refl
  judged Write = below_five (Judged Write) (rw (leb-zero a)) refl (rw (leb-zero a, leb-zero i, or-true (leb 27 a))) refl (rw (leb-zero a))
  judged Mark = below_five (Judged Mark) (rw (leb-zero a)) refl refl refl (rw (leb-zero a))

-- every request and outcome of the table
pub verdict_by_table : (q : Request) (outcome : ℕ) → outcome < 5 → table_verdict q outcome ≡ judged_by (limit_at q.op outcome) q outcome
verdict_by_table q outcome = judged q.priority q.attempts q.incomplete q.noise q.op outcome

-- any other number is in no row
in_no_row : (outcome : ℕ) → ((k : ℕ) → k < 5 → eqb outcome k ≡ false) → (op : Op) → any_of (eqb outcome) (row_of op).allowed ≡ false
unfolding any_of row_of
in_no_row outcome h Read = rw (h 0 (omega arith), h 1 (omega arith), h 2 (omega arith), h 3 (omega arith))
in_no_row outcome h Write = rw (h 0 (omega arith), h 1 (omega arith), h 2 (omega arith), h 4 (omega arith))
in_no_row outcome h Mark = rw (h 0 (omega arith), h 1 (omega arith), h 4 (omega arith))

pub verdict_beyond : (q : Request) (outcome : ℕ) → 5 ≤ outcome → table_verdict q outcome ≡ Refused 12
unfolding table_verdict is_allowed
verdict_beyond q outcome h = rw (in_no_row outcome (λ k l. ne_eqb outcome k (omega arith)) q.op)

module _ (q : Request) (outcome k : ℕ) (below : outcome < 5) (entry : k ≡ limit_at q.op outcome) where
  by_entry : table_verdict q outcome ≡ judged_by k q outcome
  by_entry = verdict_by_table q outcome below ∙ ap (λ (n : ℕ). judged_by n q outcome) (sym entry)

  pub not_allowed : k ≡ 255 → table_verdict q outcome ≡ Refused 12
  not_allowed e = by_entry ∙ rw (eq-eqb k 255 e)

  pub has_ended : (k ≡ 255 → ⊥) → ends_by k q outcome ≡ true → table_verdict q outcome ≡ Ends (ending_of q.op q.attempts outcome)
  has_ended n e = by_entry ∙ rw (ne_eqb k 255 n, e)

  pub is_repeated_lem : (k ≡ 255 → ⊥) → ends_by k q outcome ≡ false → table_verdict q outcome ≡ Repeats (next_attempt q outcome)
  is_repeated_lem n e = by_entry ∙ rw (ne_eqb k 255 n, e)

-- an operation that is repeated has room for one attempt more, and for one incomplete word more if it met one
pub repeat_room : (q : Request) (outcome k : ℕ) → outcome < 5 → k ≡ limit_at q.op outcome → ends_by k q outcome ≡ false
    → (q.attempts < 255) × (outcome ≡ incomplete_word → q.incomplete < 255)
repeat_room q outcome k below entry e = (omega (arith, limit_fits_lem q.op outcome below, leb-false k q.attempts (or_left (leb k q.attempts) _ e)), words)
  where
    words : outcome ≡ incomplete_word → q.incomplete < 255
    words h =
        let a : (eqb outcome incomplete_word && leb 1 q.incomplete) ≡ false = or_right (leb k q.attempts) _ e in
        let b : leb 1 q.incomplete ≡ false = rw (eq-eqb outcome incomplete_word h) at a in
        omega (arith, leb-false 1 q.incomplete b)

-- the last of the five
pub ending_last : (op : Op) (attempt outcome : ℕ) → 4 ≤ outcome → ending_of op attempt outcome ≡ MediumEnd
unfolding ending_of
ending_last op attempt outcome h =
    rw (ne_eqb outcome 0 (omega arith), ne_eqb outcome 1 (omega arith), ne_eqb outcome 2 (omega arith), ne_eqb outcome 3 (omega arith))

-- the limit of a row stands in its column of redundancy
pub limit_redundancy : (op : Op) → limit_at op 1 ≡ (row_of op).attempts
unfolding row_of
limit_redundancy Read = refl
limit_redundancy Write = refl
limit_redundancy Mark = refl

-- ---- noise records

noise_fits : (op : Op) → (row_of op).noise ≤ 255
unfolding row_of
noise_fits Read = omega arith
noise_fits Write = omega arith
noise_fits Mark = omega arith

module _ (q : Request) (outcome length : ℕ) (noise : Bool) (known : noise ≡ is_noise q outcome length) where
  -- a request that passes over a noise record passed over fewer than its row allows: there is room to count it
  pub noise_left : noise ≡ true → q.noise < (row_of q.op).noise
  unfolding is_noise
  noise_left e =
      let h : (eqb outcome 1 && (ltb length 3 && ltb q.noise (row_of q.op).noise)) ≡ true = sym known ∙ e in
      ltb-true q.noise (row_of q.op).noise (and_right (ltb length 3) _ (and_right (eqb outcome 1) _ h))

  pub noise_room : noise ≡ true → q.noise < 255
  noise_room e = omega (arith, noise_left e, noise_fits q.op)

  pub noise_passed : noise ≡ true → verdict_of q outcome length ≡ Repeats (past_noise q)
  unfolding verdict_of
  noise_passed e = rw (← known, e)

  pub no_noise : noise ≡ false → verdict_of q outcome length ≡ table_verdict q outcome
  unfolding verdict_of
  no_noise e = rw (← known, e)

  -- it is a redundancy, which a read may have
  pub noise_allowed : noise ≡ true → is_allowed q.op outcome ≡ true
  unfolding is_noise is_allowed any_of row_of
  noise_allowed e =
      let h : (eqb outcome 1 && (ltb length 3 && ltb q.noise (row_of q.op).noise)) ≡ true = sym known ∙ e in
      ap (is_allowed q.op) (eqb-true outcome 1 (and_left (eqb outcome 1) _ h)) ∙ allowed q.op
    where
      allowed : (op : Op) → is_allowed op 1 ≡ true
      allowed Read = refl
      allowed Write = refl
      allowed Mark = refl
