-- The result of an accepted report is the table's, by what the history has counted. Assumes nothing.
use mathlib.Core.Path.{◌≡◌, refl, sym, ap, subst, ◌∙◌}
use mathlib.Core.Bool.{Bool, true, false, not, cond, ◌&&◌, ◌||◌}
use mathlib.Core.Option.{Option, none, some}
use mathlib.Core.List.{List}
use Prim.Native.Nat.{ℕ, zero, suc, ◌+◌, ◌≤◌, ◌<◌}
use native.Mathlib.Decide.{ℕ_discrete}
use native.Mathlib.Omega.{arith}
use lib.Dec.{eqb, leb, ltb}
use lib.ListN.{length}
use borrow.Author.Tests.{eq-eqb, ne_eqb, eqb-true, leb-true, leb-false, le-leb, lt-ltb, le-ltb, not-true}
use Rattle.area.specs.Lists.{any_of}
use Rattle.area.proofs.Walks.{true_not_false, and_right, or_left, or_right, or_either}
use Rattle.channel.specs.declared.Op.{Op}
use Rattle.channel.specs.declared.Op.TheVariants.{Read, Write, Mark}
use Rattle.channel.specs.declared.Position.{Position}
use Rattle.channel.specs.declared.Request.{Request}
use Rattle.channel.specs.declared.Turn.{Turn}
use Rattle.channel.specs.declared.Turn.TheVariants.{Idle, Waiting, Displaced, Working}
use Rattle.channel.specs.declared.Channel.{Channel}
use Rattle.channel.specs.Units.{unit_count, unit_at, turn_at, position_at, work_of, operation_at}
use Rattle.channel_outcomes.specs.declared.Ending.TheVariants.{Good, Opposite, LostRedundancy, LostIncomplete}
use Rattle.channel_outcomes.specs.declared.Verdict.TheVariants.{Repeats, Ends}
use Rattle.channel_outcomes.specs.Positions.{is_pass, reads, cleaner_due}
use Rattle.channel_outcomes.specs.Rules.{outcome_count, row_of, is_allowed, is_permanent, is_noise, past_noise, next_attempt, ending_of, table_verdict, verdict_of, repeated_number, result_number}
use Rattle.channel_turns.specs.Turns.{judge_turn, judge_of}
use Rattle.channel_theorems.proofs.Theorems.Turning.{held}
use Rattle.channel_theorems.proofs.Theorems.Sound.{Counted, works}
use Rattle.state.specs.declared.State.{State}
use Rattle.state.specs.Places.{file_at, channel_at}
use Rattle.state_sound.specs.Soundness.{position_in_range, noise_right, position_right}
use Rattle.state_sound.proofs.Facts.{sound_facts}
use Rattle.call_request.specs.Report.{is_idle_for, is_forbidden, length_wrong, report_refusal}
use Rattle.pack_request.specs.Calls.{file_of, report_wrong}
use Rattle.pack_request.proofs.Ready.{not_false}
use Rattle.pack_request.proofs.ReportTheorems.{Booked, again, ended, ReportReady, report_ready, report_exactly, view}
use Rattle.pack.specs.Calls.{report, answer_of}
use Rattle.pack.specs.Books.{told_result, Pending, Book, Reel, passes_over}
use Rattle.pack.proofs.Kept as kept
use Rattle.pack.proofs.Seen.{station_at}
use Rattle.pack.proofs.Counted.{result_is}
use Rattle.pack.proofs.Booking.{as_request, as_position, noise_as, Held, holding, held_by_lem, Shows}
use Rattle.demands.specs.Results.{repeated, results_of, given_for, Results, Forbids, Stands}
use Rattle.demands.proofs.Rows.{row_past, row_given, none_gives, not_gives}

-- ---- the table is what the rules come to

-- an attempt that is not past its limit has reached it exactly if it is the last
at_limit : (n a : ℕ) → a ≤ n → leb n a ≡ eqb a n
at_limit n a h = go (ℕ_discrete a n)
  where
    go : Dec (a ≡ n) → leb n a ≡ eqb a n
    go (yes e) = le-leb n a (omega arith) ∙ sym (eq-eqb a n e)
    go (no ne) = below (leb n a) refl ∙ sym (ne_eqb a n ne)
      where
        below : (b : Bool) → leb n a ≡ b → b ≡ false
        below true e = absurd (ne (omega (arith, leb-true n a e)))
        below false e = refl

-- where no noise was met by the request that the reel does not tell of
quiet_is : (n : ℕ) (b : Bool) → (eqb n 0 || b) ≡ true → (b || ltb 0 n) ≡ b
quiet_is n true h = refl
quiet_is n false h = or_either (eqb n 0) false h (λ e. let z = eqb-true n 0 e in le-ltb 0 n (omega arith)) (λ e. true_not_false e refl)

and_shift : (a b c : Bool) → (a && (b && c)) ≡ ((a && b) && c)
and_shift true b c = refl
and_shift false b c = refl

module _ (p : Bool) (a i n : ℕ) (x : Reel) (known : (eqb n 0 || x.noise) ≡ true) where
  abbrev asked : Op → Request
  asked op = record { op = op; priority = p; attempts = a; incomplete = i; noise = n }

  -- "07 in place of 00", of a read, and of no other operation
  read_again : (o : ℕ) → repeated_number (as_position x) (next_attempt (asked Read) o) ≡ repeated a x
  unfolding repeated_number cleaner_due next_attempt
  read_again o =
      ap (λ (b : Bool). cond (is_pass (a + 1) && (leb 3 x.records && not b)) 7 0) (quiet_is n x.noise known)

  write_again : (o : ℕ) → repeated_number (as_position x) (next_attempt (asked Write) o) ≡ 0
  unfolding repeated_number cleaner_due next_attempt
  write_again o = refl

  mark_again : (o : ℕ) → repeated_number (as_position x) (next_attempt (asked Mark) o) ≡ 0
  unfolding repeated_number cleaner_due next_attempt
  mark_again o = refl

  table_is : (op : Op) (o : ℕ) → o < 5 → Counted (asked op) → is_allowed op o ≡ true
      → given_for o (results_of op a i x) ≡ some (result_number (as_position x) (table_verdict (asked op) o))
  unfolding given_for table_verdict is_allowed is_permanent ending_of row_of any_of
  table_is Read zero l k h = go (eqb a 4)
    where
      go : (t : Bool) → some (cond t 2 1) ≡ some (result_number (as_position x) (Ends (cond t Opposite Good)))
      go true = refl
      go false = refl
  table_is Read (suc zero) l k h = ap (λ (t : Bool). some (cond t 5 (repeated a x))) (sym (at_limit 101 a k.limit)) ∙ go (leb 101 a)
    where
      go : (t : Bool) → some (cond t 5 (repeated a x)) ≡ some (result_number (as_position x) (cond (t || false) (Ends LostRedundancy) (Repeats (next_attempt (asked Read) 1))))
      go true = refl
      go false = ap some (sym (read_again 1))
  table_is Read (suc (suc zero)) l k h =
      ap (λ (t : Bool). some (cond (t || eqb i 1) 6 (repeated a x))) (sym (at_limit 101 a k.limit))
      ∙ ap (λ (t : Bool). some (cond (leb 101 a || t) 6 (repeated a x))) (sym (at_limit 1 i k.words)) ∙ go (leb 101 a || leb 1 i)
    where
      go : (t : Bool) → some (cond t 6 (repeated a x)) ≡ some (result_number (as_position x) (cond t (Ends LostIncomplete) (Repeats (next_attempt (asked Read) 2))))
      go true = refl
      go false = ap some (sym (read_again 2))
  table_is Read (suc (suc (suc zero))) l k h = refl
  table_is Read (suc (suc (suc (suc zero)))) l k h = true_not_false h refl
  table_is Read (suc (suc (suc (suc (suc o))))) l k h = absurd (omega arith)
  table_is Write zero l k h = refl
  table_is Write (suc zero) l k h = ap (λ (t : Bool). some (cond t 5 0)) (sym (at_limit 27 a k.limit)) ∙ go (leb 27 a)
    where
      go : (t : Bool) → some (cond t 5 0) ≡ some (result_number (as_position x) (cond (t || false) (Ends LostRedundancy) (Repeats (next_attempt (asked Write) 1))))
      go true = refl
      go false = ap some (sym (write_again 1))
  table_is Write (suc (suc zero)) l k h =
      go (leb 27 a)
      ∙ ap (λ (t : Bool). some (result_number (as_position x) (cond (leb 27 a || t) (Ends LostIncomplete) (Repeats (next_attempt (asked Write) 2)))))
      (sym (le-leb 0 i (omega arith)))
    where
      go : (t : Bool) → some 6 ≡ some (result_number (as_position x) (cond (t || true) (Ends LostIncomplete) (Repeats (next_attempt (asked Write) 2))))
      go true = refl
      go false = refl
  table_is Write (suc (suc (suc zero))) l k h = true_not_false h refl
  table_is Write (suc (suc (suc (suc zero)))) l k h = refl
  table_is Write (suc (suc (suc (suc (suc o))))) l k h = absurd (omega arith)
  table_is Mark zero l k h = refl
  table_is Mark (suc zero) l k h = ap (λ (t : Bool). some (cond t 5 0)) (sym (at_limit 27 a k.limit)) ∙ go (leb 27 a)
    where
      go : (t : Bool) → some (cond t 5 0) ≡ some (result_number (as_position x) (cond (t || false) (Ends LostRedundancy) (Repeats (next_attempt (asked Mark) 1))))
      go true = refl
      go false = ap some (sym (mark_again 1))
  table_is Mark (suc (suc zero)) l k h = true_not_false h refl
  table_is Mark (suc (suc (suc zero))) l k h = true_not_false h refl
  table_is Mark (suc (suc (suc (suc zero)))) l k h = refl
  table_is Mark (suc (suc (suc (suc (suc o))))) l k h = absurd (omega arith)

module _ (a i : ℕ) (x : Reel) where
  table_not : (op : Op) (o : ℕ) → o < 5 → is_allowed op o ≡ false → given_for o (results_of op a i x) ≡ none
  unfolding given_for is_allowed row_of any_of
  table_not Read zero l h = true_not_false refl h
  table_not Read (suc zero) l h = true_not_false refl h
  table_not Read (suc (suc zero)) l h = true_not_false refl h
  table_not Read (suc (suc (suc zero))) l h = true_not_false refl h
  table_not Read (suc (suc (suc (suc zero)))) l h = refl
  table_not Read (suc (suc (suc (suc (suc o))))) l h = absurd (omega arith)
  table_not Write zero l h = true_not_false refl h
  table_not Write (suc zero) l h = true_not_false refl h
  table_not Write (suc (suc zero)) l h = true_not_false refl h
  table_not Write (suc (suc (suc zero))) l h = refl
  table_not Write (suc (suc (suc (suc zero)))) l h = true_not_false refl h
  table_not Write (suc (suc (suc (suc (suc o))))) l h = absurd (omega arith)
  table_not Mark zero l h = true_not_false refl h
  table_not Mark (suc zero) l h = true_not_false refl h
  table_not Mark (suc (suc zero)) l h = refl
  table_not Mark (suc (suc (suc zero))) l h = refl
  table_not Mark (suc (suc (suc (suc zero)))) l h = true_not_false refl h
  table_not Mark (suc (suc (suc (suc (suc o))))) l h = absurd (omega arith)

-- the result of a noise record that is passed over
abbrev seven_if : Bool → ℕ
seven_if b = cond b 7 0

none_due : (a b c d : Bool) → seven_if (a && (b && (c && not (d || true)))) ≡ 0
none_due true true true true = refl
none_due true true true false = refl
none_due true true false d = refl
none_due true false c d = refl
none_due false b c d = refl

noise_told : (x : Reel) (q : Request) → repeated_number (as_position x) (past_noise q) ≡ 0
unfolding repeated_number cleaner_due past_noise
noise_told x q =
    ap (λ (b : Bool). seven_if (reads q.op && (is_pass q.attempts && (leb 3 x.records && not (x.noise || b))))) (lt-ltb 0 (q.noise + 1) (omega arith))
    ∙ none_due (reads q.op) (is_pass q.attempts) (leb 3 x.records) x.noise

-- where a reel stands
pub reel_stands : {p : Position} (x : Reel) → p ≡ as_position x → Stands p x
reel_stands x e =
    record { marks = ap (λ (q : Position). q.marks) e; records = ap (λ (q : Position). q.records) e; noise = ap (λ (q : Position). q.noisy) e }

-- ---- a report

module _ (s : State) (area : List ℕ) (channel unit outcome len : ℕ) (words : List ℕ) (g : kept.Good s) (b : Book) (S : Shows (station_at channel s) b)
    (z : (answer_of s area (report channel unit outcome len words)).refusal ≡ 0) where
  abbrev c : Channel
  c = channel_at s channel

  number : report_refusal (report_wrong s (length area) channel) (file_at s (file_of s channel unit)) c unit outcome len s.w area words ≡ 0
  unfolding answer_of report_refusal
  number = sym (report_exactly s area channel unit outcome len words).number ∙ z

  ready : ReportReady (report_wrong s (length area) channel) (file_at s (file_of s channel unit)) c unit outcome len s.w area words
  ready = report_ready (report_wrong s (length area) channel) (file_at s (file_of s channel unit)) c unit outcome len s.w area words number

  in_range_lem : outcome < outcome_count
  in_range_lem = leb-false outcome_count outcome (or_right (leb unit_count unit) _ ready.range)

  allowed : (r : Request) → turn_at c unit ≡ Working r → is_allowed r.op outcome ≡ true
  unfolding operation_at
  allowed r i =
      not_false (is_allowed r.op outcome) (sym (ap (λ (t : Turn). is_forbidden (work_of t) outcome) i) ∙ ready.allowed)

  for : (r : Request) → turn_at c unit ≡ Working r → Results b unit outcome len (told_result (answer_of s area (report channel unit outcome len words)).added)
  unfolding answer_of judge_of verdict_of position_right
  for r i = go (b.requests unit) refl (held_by_lem r (b.requests unit) (sym (ap held i) ∙ S.holds unit))
    where
      go : (h : Option Pending) → b.requests unit ≡ h → Held r h
          → Results b unit outcome len (told_result (answer_of s area (report channel unit outcome len words)).added)
      go h e (holding p k) = record {
        request = p;
        pending = e;
        noise = λ n. told_as ∙ passed (noise_as outcome len p ∙ n);
        row = λ n.
            table_is p.priority (p.failures + 1) p.incomplete p.noise (b.reels unit) known p.op outcome in_range_lem
            (subst Counted k (works c unit r ((sound_facts s g.right).channels channel).ranges i).counted)
            (subst (λ (x : Request). is_allowed x.op outcome ≡ true) k (allowed r i))
            ∙ ap some (sym (told_as ∙ tabled (noise_as outcome len p ∙ n)));
      }
        where
          position : position_at c unit ≡ as_position (b.reels unit)
          position = S.stands unit

          told_as : told_result (answer_of s area (report channel unit outcome len words)).added ≡ result_number (as_position (b.reels unit)) (verdict_of (as_request p) outcome len)
          told_as =
              result_is channel s area channel unit outcome len words z
              ∙ ap (λ (t : Turn). result_number (position_at c unit) (judge_turn t outcome len)) i
              ∙ ap (λ (x : Request). result_number (position_at c unit) (verdict_of x outcome len)) k
              ∙ ap (λ (y : Position). result_number y (verdict_of (as_request p) outcome len)) position

          -- a request that has passed over noise is of a unit that has met some
          known : (eqb p.noise 0 || (b.reels unit).noise) ≡ true
          known =
              let y = unit_at c unit in
              sym (ap (λ (t : Turn). noise_right t y.position) i ∙ ap (λ (q : Request). eqb q.noise 0 || y.position.noisy) k
              ∙ ap (λ (q : Position). eqb p.noise 0 || q.noisy) position)
              ∙ and_right (position_in_range y.declared y.position) _ (((sound_facts s g.right).channels channel).stands unit)

          passed : is_noise (as_request p) outcome len ≡ true → result_number (as_position (b.reels unit)) (verdict_of (as_request p) outcome len) ≡ 0
          passed e = ap (λ (t : Bool). result_number (as_position (b.reels unit)) (cond t (Repeats (past_noise (as_request p))) (table_verdict (as_request p) outcome))) e ∙ noise_told (b.reels unit) (as_request p)

          tabled : is_noise (as_request p) outcome len ≡ false
              → result_number (as_position (b.reels unit)) (verdict_of (as_request p) outcome len) ≡ result_number (as_position (b.reels unit)) (table_verdict (as_request p) outcome)
          tabled e = ap (λ (t : Bool). result_number (as_position (b.reels unit)) (cond t (Repeats (past_noise (as_request p))) (table_verdict (as_request p) outcome))) e

  pub reported_results : Results b unit outcome len (told_result (answer_of s area (report channel unit outcome len words)).added)
  reported_results = go (view s area channel unit outcome len words g.sixteen number)
    where
      go : Booked c unit outcome len → Results b unit outcome len (told_result (answer_of s area (report channel unit outcome len words)).added)
      go (again r q i j) = for r i
      go (ended r e i j) = for r i

-- ---- a report whose outcome is not allowed

module _ (s : State) (area : List ℕ) (channel unit outcome len : ℕ) (words : List ℕ) (b : Book) (S : Shows (station_at channel s) b)
    (z : (answer_of s area (report channel unit outcome len words)).refusal ≡ 12) where
  pub refused_forbids : Forbids b unit outcome
  unfolding answer_of operation_at
  refused_forbids =
      let one = row_past 12 1 _ _ (λ q. omega arith) (sym (report_exactly s area channel unit outcome len words).number ∙ z) in
      let two = row_past 12 2 _ _ (λ q. omega arith) one.1 in
      let eleven = row_past 12 11 (is_idle_for (work_of (turn_at (channel_at s channel) unit))) _ (λ q. omega arith) two.1 in
      let low = or_left (leb unit_count unit || leb outcome_count outcome) _ (or_right (report_wrong s (length area) channel || length_wrong outcome len (operation_at (channel_at s channel) unit) (length words)) _ one.0) in
      go (turn_at (channel_at s channel) unit) refl eleven.0
      (row_given 12 (is_forbidden (work_of (turn_at (channel_at s channel) unit)) outcome) _
      (not_gives 12 13 _ _ (λ q. omega arith) (none_gives 12 (omega arith))) eleven.1)
      (leb-false outcome_count outcome (or_right (leb unit_count unit) _ low))
    where
      for : (r : Request) (h : Option Pending) → b.requests unit ≡ h → Held r h → is_allowed r.op outcome ≡ false → outcome < outcome_count → Forbids b unit outcome
      for r h e (holding p k) never l = record {
        request = p;
        pending = e;
        row = table_not (p.failures + 1) p.incomplete (b.reels unit) p.op outcome l (subst (λ (x : Request). is_allowed x.op outcome ≡ false) k never);
      }

      go : (t : Turn) → turn_at (channel_at s channel) unit ≡ t → is_idle_for (work_of t) ≡ false → is_forbidden (work_of t) outcome ≡ true
          → outcome < outcome_count → Forbids b unit outcome
      go Idle i w f l = true_not_false refl w
      go (Waiting q) i w f l = true_not_false refl w
      go (Displaced q) i w f l = true_not_false refl w
      go (Working r) i w f l =
          for r (b.requests unit) refl (held_by_lem r (b.requests unit) (sym (ap held i) ∙ S.holds unit)) (not-true (is_allowed r.op outcome) f) l
