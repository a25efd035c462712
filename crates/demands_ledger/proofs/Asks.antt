-- The operation that a file's unit has a request for is the one that was last asked for, over every history. Assumes nothing.
use mathlib.Core.Path.{◌≡◌, refl, sym, ap, subst, ◌∙◌}
use mathlib.Core.Logic.{◌≢◌}
use mathlib.Core.Bool.{Bool, true, false, not, cond, ◌&&◌}
use mathlib.Core.Option.{Option, none, some}
use mathlib.Core.List.{List, [], ◌∷◌}
use Prim.Native.Nat.{ℕ, ◌<◌}
use native.Mathlib.Decide.{ℕ_discrete}
use native.Mathlib.Omega.{arith}
use lib.Dec.{eqb}
use borrow.Author.Tests.{eq-eqb, ne_eqb, not-true}
use Rattle.area.proofs.Walks.{true_not_false, and_both, and_right}
use Rattle.area.proofs.Marks.{cond_true, cond_false}
use Rattle.channel.specs.declared.Op.{Op}
use Rattle.channel.specs.declared.Request.{Request}
use Rattle.channel.specs.declared.Turn.{Turn}
use Rattle.channel.specs.declared.Turn.TheVariants.{Idle, Waiting}
use Rattle.channel.specs.declared.Channel.{Channel}
use Rattle.channel.specs.Units.{is_idle, turn_at, with_unit, with_turn}
use Rattle.channel_turns.specs.Starts.{new_request}
use Rattle.channel_turns.specs.Turns.{judge_of}
use Rattle.channel_theorems.specs.History as history
use Rattle.channel_theorems.specs.History.{Station, station, Event, Step, step_to, accepted, report_answer}
use Rattle.channel_theorems.specs.Lifted.{Shown, Agrees}
use Rattle.channel_theorems.proofs.Theorems.Turning.{at_set, busy_inside, declared_inside}
use Rattle.channel_theorems.proofs.Theorems.Calls.{Incomplete, onward, aside, Took, refuses, asks, repeats, ends, freezes, thaws, took}
use Rattle.channel_theorems.proofs.Theorems.Sound.{verdict_again}
use Rattle.file.specs.declared.File.{File}
use Rattle.file.specs.Sizes.{closed_file}
use Rattle.pool.specs.Free.{file_count}
use Rattle.pool.specs.Serving.{serves, is_bound}
use Rattle.routines.specs.declared.Naming.{Naming}
use Rattle.state.specs.declared.State.{State}
use Rattle.state.specs.Places.{file_at, channel_in, channel_at}
use Rattle.state_sound.specs.Files.{share_buffer, share_unit, apart}
use Rattle.state_sound.specs.Requests.{requested, is_none}
use Rattle.state_sound.specs.Soundness.{request_of}
use Rattle.state_sound.proofs.Replaced.{unbound}
use Rattle.state_sound.proofs.Everywhere.{place_inside}
use Rattle.state_sound.proofs.Facts.{sound_facts}
use Rattle.state_sound.proofs.ChannelCalls.{start_alike}
use Rattle.pack_start.specs.declared.Masks.{Masks}
use Rattle.pack_open.proofs.OpenTheorems.{open_accepted, open_frame}
use Rattle.call_request.specs.Ask.{is_priority, op_of}
use Rattle.pack_request.proofs.AskTheorems.{ask_ready, ask_frame, ask_event_lem}
use Rattle.pack.specs.Calls.{Call, fresh, opening, close, ask, report, get, put, seal, skip, freeze, thaw, return, running, Answer, answer_of}
use Rattle.pack.specs.Histories.{is_accepted}
use Rattle.pack.proofs.Refused.{call_alone_lem}
use Rattle.pack.proofs.Seen.{station_at, event_if, seen, call_agrees}
use Rattle.demands_ledger.specs.Ledgers.{Choice, Ledger, blank_ledger, choice_of, new_ledger, with_report, with_ask, with_get, with_put, with_seal, with_skip, with_close, is_on, entered, noted, state_after, ledger_after}
use Rattle.demands_ledger.proofs.Told.{Chose, Told}
use Rattle.demands_ledger.proofs.Frames.{Kept}
use Rattle.demands_ledger.proofs.Starts.{asked_number}
use Rattle.demands_ledger.proofs.Always.{accepted_kept, noted_kept, started}
use Rattle.std.specs.declared.option.Option.TheVariants.{Some, None}

-- ---- what is requested of a unit after one event of its channel

no_op : {op : Op} → None ≡ Some op → ⊥
no_op e = let z : ◌≡◌ {A = ℕ} 0 1 = cc in omega arith

same_op_lem : {a b : Op} → Some a ≡ Some b → a ≡ b
same_op_lem e = cc

incomplete_op : {c : Channel} {frozen : Bool} (q : Request) (t : Turn) → Incomplete c frozen q t → requested t ≡ Some q.op
incomplete_op q t (onward g) = refl
incomplete_op q t (aside g) = refl

abbrev is_ask : Event → Bool
is_ask (history.ask u op p) = true
is_ask (history.report u o l) = false
is_ask history.freeze = false
is_ask history.thaw = false

abbrev no_ask : Option Shown → Bool
no_ask none = true
no_ask (some x) = cond (is_ask x.event) false true

event_quiet : (t : Bool) (e : Event) (a : history.Answer) → is_ask e ≡ false → no_ask (event_if t e a) ≡ true
event_quiet true e a n = ap (λ (b : Bool). cond b false true) n
event_quiet false e a n = refl

module _ (s : Station) (y : ℕ) (op : Op) where
  -- an accepted ask
  ask_request : (u : ℕ) (o : Op) (p : Bool) (d : Station) → Took s (history.ask u o p) (step_to accepted d) → requested (turn_at d.channel y) ≡ Some op
      → (y ≡ u → op ≡ o) × (y ≢ u → requested (turn_at s.channel y) ≡ Some op)
  ask_request u o p d (asks _ _ _ known idle) h =
      at_set s.channel u (Waiting (new_request o p)) (declared_inside s.channel u known)
      (λ z k. requested k.turn ≡ Some op → (z ≡ u → op ≡ o) × (z ≢ u → requested (turn_at s.channel z) ≡ Some op))
      (λ e. (λ q. sym (same_op_lem e), λ ne. absurd (ne refl))) (λ z ne e. (λ q. absurd (ne q), λ q. e)) y
      (sym (start_alike (with_turn s.channel u (Waiting (new_request o p))) s.frozen y).0 ∙ h)

  -- anything else leaves a request or ends it
  other_request : (e : Event) (o : Step) → Took s e o → is_ask e ≡ false → requested (turn_at o.after.channel y) ≡ Some op
      → requested (turn_at s.channel y) ≡ Some op
  other_request e o refuses n h = h
  other_request e o (asks u op' p known idle) n h = true_not_false refl n
  other_request e o (repeats u oc len r q t stood i j k stands) n h =
      at_set s.channel u t (busy_inside s.channel u (ap is_idle i))
      (λ z v. requested v.turn ≡ Some op → requested (turn_at s.channel z) ≡ Some op)
      (λ g. ap requested i ∙ sym (ap Some (verdict_again r oc len q j).same_op) ∙ sym (incomplete_op q t k) ∙ g) (λ z ne g. g) y
      (sym (start_alike (with_unit s.channel u t stood) s.frozen y).0 ∙ h)
  other_request e o (ends u oc len r how stood i judged stands) n h =
      at_set s.channel u Idle (busy_inside s.channel u (ap is_idle i))
      (λ z v. requested v.turn ≡ Some op → requested (turn_at s.channel z) ≡ Some op) (λ g. absurd (no_op g)) (λ z ne g. g) y
      (sym (start_alike _ s.frozen y).0 ∙ h)
  other_request e o freezes n h = h
  other_request e o thaws n h = sym (start_alike s.channel false y).0 ∙ h

  agreed : (d : Station) (x : Option Shown) → Agrees s x d → no_ask x ≡ true → requested (turn_at d.channel y) ≡ Some op
      → requested (turn_at s.channel y) ≡ Some op
  agreed d none e n h = sym (ap (λ (z : Station). requested (turn_at z.channel y)) e) ∙ h
  agreed d (some x) e n h = go (is_ask x.event) refl n
    where
      go : (t : Bool) → is_ask x.event ≡ t → cond t false true ≡ true → requested (turn_at s.channel y) ≡ Some op
      go true q k = true_not_false k refl
      go false q k = other_request x.event (step_to x.answer d) (subst (Took s x.event) e (took s x.event)) q h

-- ---- what holds of every open file and its ledger

abbrev pub Asked : State → (ℕ → Ledger) → Type 0
Asked s ledgers =
    (i : ℕ) → (file_at s i).opened ≡ true → (op : Op) → request_of s.channels (file_at s i) ≡ Some op → op ≡ op_of (ledgers i).asked

-- a ledger of the same open file
record Like (h g : Ledger) : Type 0 where
  chosen : h.chosen ≡ g.chosen
  opened : h.opened ≡ true → g.opened ≡ true

like_self : (g : Ledger) → Like g g
like_self g = record { chosen = refl; opened = λ o. o }

-- an entry of one call, or none
like_cond : (t : Bool) (h g : Ledger) → Like h g → Like (cond t h g) g
like_cond true h g l = l
like_cond false h g l = like_self g

asked_cond : (t : Bool) (h g : Ledger) → h.asked ≡ g.asked → (cond t h g).asked ≡ g.asked
asked_cond true h g e = e
asked_cond false h g e = refl

module _ (s : State) (area : List ℕ) (ledgers : ℕ → Ledger) (K : Kept s area ledgers) (A : Asked s ledgers) where
  -- file i is open where it was, on the unit where it was
  module _ (t : State) (zs : List ℕ) (i : ℕ) (h : Ledger) (T : Told t.w (file_at t i) zs h) (L : Like h (ledgers i))
      (o : (file_at t i).opened ≡ true) where
    was_open : (file_at s i).opened ≡ true
    was_open = sym (K.told i).opened ∙ L.opened (T.opened ∙ o)

    was_channel : (file_at t i).channel ≡ (file_at s i).channel
    was_channel = sym (T.chose o).on_channel ∙ ap (λ (c : Choice). c.channel) L.chosen ∙ ((K.told i).chose was_open).on_channel

    was_unit : (file_at t i).unit ≡ (file_at s i).unit
    was_unit = sym (T.chose o).on_unit ∙ ap (λ (c : Choice). c.unit) L.chosen ∙ ((K.told i).chose was_open).on_unit

    request_there : (op : Op) → request_of t.channels (file_at t i) ≡ Some op
        → requested (turn_at (channel_at t (file_at s i).channel) (file_at s i).unit) ≡ Some op
    request_there op r =
        sym (ap (λ (c : ℕ). requested (turn_at (channel_at t c) (file_at t i).unit)) was_channel
        ∙ ap (λ (u : ℕ). requested (turn_at (channel_at t (file_at s i).channel) u)) was_unit) ∙ r

    -- a call that is no ask to its channel
    stays : (x : Option Shown) → Agrees (station_at (file_at s i).channel s) x (station_at (file_at s i).channel t) → no_ask x ≡ true
        → h.asked ≡ (ledgers i).asked → (op : Op) → request_of t.channels (file_at t i) ≡ Some op → op ≡ op_of h.asked
    stays x e n k op r =
        A i was_open op
        (agreed (station_at (file_at s i).channel s) (file_at s i).unit op (station_at (file_at s i).channel t) x e n (request_there op r))
        ∙ ap op_of (sym k)

  -- two open files have two units
  other_unit : (i j : ℕ) → i ≢ j → (file_at s i).opened ≡ true → (file_at s j).opened ≡ true → (file_at s j).channel ≡ (file_at s i).channel
      → (file_at s j).unit ≢ (file_at s i).unit
  unfolding apart
  other_unit i j ne o p c u =
      true_not_false
      (and_both (file_at s i).opened _ o (and_both (file_at s j).opened _ p (and_both (eqb (file_at s j).channel (file_at s i).channel) _
      (eq-eqb (file_at s j).channel (file_at s i).channel c) (eq-eqb (file_at s j).unit (file_at s i).unit u))))
      (not-true (share_unit (file_at s i) (file_at s j)) (and_right (not (share_buffer (file_at s i) (file_at s j))) _
      ((sound_facts s K.good.right).apart i j ne)))

  -- nothing is requested of a unit on which no file is open
  unit_quiet : (channel unit : ℕ) → is_bound s.files channel unit ≡ false → (op : Op) → requested (turn_at (channel_at s channel) unit) ≡ Some op → ⊥
  unit_quiet channel unit free op r =
      let p = (sound_facts s K.good.right).served channel unit (ap is_none r) in
      let l = place_inside s.files closed_file (serves channel unit) refl p.place p.bound in
      let within : p.place < file_count = omega (arith, l, K.good.sixteen) in
      true_not_false p.bound (unbound s.files channel unit p.place free within)

  -- ---- ask

  module _ (file op priority : ℕ) (naming : Naming) (z : (answer_of s area (ask file op priority naming)).refusal ≡ 0) where
    abbrev f : File
    f = file_at s file

    abbrev t : State
    t = (answer_of s area (ask file op priority naming)).state

    E : Kept (answer_of s area (ask file op priority naming)).state (answer_of s area (ask file op priority naming)).area
        (λ i. cond (eqb file i) (with_ask op (ledgers i)) (ledgers i))
    E = accepted_kept s area ledgers K (ask file op priority naming) z

    like : (i : ℕ) → Like (cond (eqb file i) (with_ask op (ledgers i)) (ledgers i)) (ledgers i)
    like i = like_cond (eqb file i) (with_ask op (ledgers i)) (ledgers i) (record { chosen = refl; opened = λ o. o })

    on_channel_lem : (y : ℕ) (o : Op) → requested (turn_at (channel_at t f.channel) y) ≡ Some o
        → (y ≡ f.unit → o ≡ op_of op) × (y ≢ f.unit → requested (turn_at (channel_at s f.channel) y) ≡ Some o)
    unfolding answer_of
    on_channel_lem y o r =
        let st = station (channel_at s f.channel) s.frozen in
        let e = history.ask f.unit (op_of op) (is_priority priority) in
        ask_request st y o f.unit (op_of op) (is_priority priority) (station (channel_at t f.channel) t.frozen)
        (subst (Took st e) (ask_event_lem s file op priority naming z) (took st e)) r

    ask_here : (file_at t file).opened ≡ true → (o : Op) → request_of t.channels (file_at t file) ≡ Some o → o ≡ op_of op
    ask_here h o r =
        (on_channel_lem f.unit o (request_there t (answer_of s area (ask file op priority naming)).area file _ (E.told file) (like file) h o r)).0 refl

    ask_there : (i : ℕ) → i ≢ file → (file_at t i).opened ≡ true → (o : Op) → request_of t.channels (file_at t i) ≡ Some o → o ≡ op_of (ledgers i).asked
    unfolding answer_of
    ask_there i ne h o r =
        let zs = (answer_of s area (ask file op priority naming)).area in
        let p = was_open t zs i _ (E.told i) (like i) h in
        let q = request_there t zs i _ (E.told i) (like i) h o r in
        A i p o (go p q (ℕ_discrete (file_at s i).channel f.channel))
      where
        go : (file_at s i).opened ≡ true → requested (turn_at (channel_at t (file_at s i).channel) (file_at s i).unit) ≡ Some o
            → Dec ((file_at s i).channel ≡ f.channel) → request_of s.channels (file_at s i) ≡ Some o
        go p q (yes c) =
            ap (λ (n : ℕ). requested (turn_at (channel_at s n) (file_at s i).unit)) c
            ∙ (on_channel_lem (file_at s i).unit o (sym (ap (λ (n : ℕ). requested (turn_at (channel_at t n) (file_at s i).unit)) c) ∙ q)).1
            (other_unit file i (λ e. ne (sym e)) (ask_ready _ f (channel_at s f.channel) op priority naming _
            (asked_number s area ledgers K file op priority naming z)).is_open p c)
        go p q (no c) =
            sym (ap (λ (k : Channel). requested (turn_at k (file_at s i).unit)) ((ask_frame s file op priority naming).channels (file_at s i).channel c)) ∙ q

    ask_asked : Asked (answer_of s area (ask file op priority naming)).state (λ i. cond (eqb file i) (with_ask op (ledgers i)) (ledgers i))
    ask_asked i h o r = by (ℕ_discrete file i)
      where
        by : Dec (file ≡ i) → o ≡ op_of (cond (eqb file i) (with_ask op (ledgers i)) (ledgers i)).asked
        by (yes e) =
            subst (λ (j : ℕ). (file_at t j).opened ≡ true → request_of t.channels (file_at t j) ≡ Some o → o ≡ op_of op) e (λ p q. ask_here p o q) h r
            ∙ ap (λ (g : Ledger). op_of g.asked) (sym (cond_true (with_ask op (ledgers i)) (ledgers i) (eq-eqb file i e)))
        by (no ne) =
            ask_there i (λ e. ne (sym e)) h o r
            ∙ ap (λ (g : Ledger). op_of g.asked) (sym (cond_false (with_ask op (ledgers i)) (ledgers i) (ne_eqb file i ne)))

  -- ---- open

  module _ (file channel unit flags size rlen : ℕ) (z : (answer_of s area (opening file channel unit flags size rlen)).refusal ≡ 0) where
    abbrev new : Ledger
    new = new_ledger (choice_of channel unit flags size rlen)

    abbrev opened_state : State
    opened_state = (answer_of s area (opening file channel unit flags size rlen)).state

    open_quiet : (g : File) → Chose g (choice_of channel unit flags size rlen) → (op : Op) → request_of opened_state.channels g ≡ Some op → ⊥
    unfolding answer_of
    open_quiet g C op r =
        unit_quiet channel unit (open_accepted s file channel unit flags size rlen z).unbound op
        (sym (ap (λ (cs : List Channel). requested (turn_at (channel_in cs g.channel) g.unit))
        (open_frame s file channel unit flags size rlen).channels
        ∙ ap (λ (n : ℕ). requested (turn_at (channel_at s n) g.unit)) (sym C.on_channel)
        ∙ ap (λ (n : ℕ). requested (turn_at (channel_at s channel) n)) (sym C.on_unit)) ∙ r)

    open_asked : Asked (answer_of s area (opening file channel unit flags size rlen)).state
        (λ i. cond (eqb file i) (new_ledger (choice_of channel unit flags size rlen)) (ledgers i))
    open_asked i o op r = by (ℕ_discrete file i)
      where
        E : Kept (answer_of s area (opening file channel unit flags size rlen)).state
            (answer_of s area (opening file channel unit flags size rlen)).area
            (λ i. cond (eqb file i) (new_ledger (choice_of channel unit flags size rlen)) (ledgers i))
        E = accepted_kept s area ledgers K (opening file channel unit flags size rlen) z

        by : Dec (file ≡ i) → op ≡ op_of (cond (eqb file i) (new_ledger (choice_of channel unit flags size rlen)) (ledgers i)).asked
        by (yes e) =
            absurd (open_quiet (file_at opened_state i)
            (subst (λ (g : Ledger). Chose (file_at opened_state i) g.chosen) (cond_true new (ledgers i) (eq-eqb file i e))
            ((E.told i).chose o)) op r)
        by (no ne) =
            let same = cond_false new (ledgers i) (ne_eqb file i ne) in
            stays opened_state (answer_of s area (opening file channel unit flags size rlen)).area i (cond (eqb file i) new (ledgers i)) (E.told i)
            (subst (λ (g : Ledger). Like g (ledgers i)) (sym same) (like_self (ledgers i))) o none
            (call_agrees (file_at s i).channel s area K.good (opening file channel unit flags size rlen)) refl
            (ap (λ (g : Ledger). g.asked) same) op r

  -- ---- every accepted call

  -- one that is neither a fresh start nor an open nor an ask
  quiet_asked : (call : Call) → (answer_of s area call).refusal ≡ 0
      → ((c : ℕ) → Agrees (station_at c s) (seen c s area call) (station_at c (answer_of s area call).state))
      → ((c : ℕ) → no_ask (seen c s area call) ≡ true)
      → ((i : ℕ) → Like (entered i call (answer_of s area call) (ledgers i)) (ledgers i))
      → ((i : ℕ) → (entered i call (answer_of s area call) (ledgers i)).asked ≡ (ledgers i).asked)
      → Asked (answer_of s area call).state (λ i. entered i call (answer_of s area call) (ledgers i))
  quiet_asked call z S n L k i o op r =
      stays (answer_of s area call).state (answer_of s area call).area i (entered i call (answer_of s area call) (ledgers i))
      ((accepted_kept s area ledgers K call z).told i) (L i) o (seen (file_at s i).channel s area call) (S (file_at s i).channel)
      (n (file_at s i).channel) (k i)
      op r

  -- an entry in the ledger of one file
  one_like : (t : ℕ → Bool) (L : Ledger → Ledger) → ((g : Ledger) → Like (L g) g) → (i : ℕ) → Like (cond (t i) (L (ledgers i)) (ledgers i)) (ledgers i)
  one_like t L like i = like_cond (t i) (L (ledgers i)) (ledgers i) (like (ledgers i))

  one_asked : (t : ℕ → Bool) (L : Ledger → Ledger) → ((g : Ledger) → (L g).asked ≡ g.asked) → (i : ℕ)
      → (cond (t i) (L (ledgers i)) (ledgers i)).asked ≡ (ledgers i).asked
  one_asked t L same i = asked_cond (t i) (L (ledgers i)) (ledgers i) (same (ledgers i))

  accepted_asked : (call : Call) → (answer_of s area call).refusal ≡ 0
      → Asked (answer_of s area call).state (λ i. entered i call (answer_of s area call) (ledgers i))
  accepted_asked (fresh m w masks) z = λ i o op r. true_not_false o (sym ((accepted_kept s area ledgers K (fresh m w masks) z).told i).opened)
  accepted_asked (opening file channel unit flags size rlen) z = open_asked file channel unit flags size rlen z
  accepted_asked (close file) z =
      quiet_asked (close file) z (λ c. call_agrees c s area K.good (close file)) (λ c. refl)
      (one_like (eqb file) with_close (λ g. record { chosen = refl; opened = λ p. true_not_false p refl })) (one_asked (eqb file) with_close (λ g. refl))
  accepted_asked (ask file op priority naming) z = ask_asked file op priority naming z
  accepted_asked (report channel unit outcome len words) z =
      let a = answer_of s area (report channel unit outcome len words) in
      quiet_asked (report channel unit outcome len words) z (λ c. call_agrees c s area K.good (report channel unit outcome len words))
      (λ c. event_quiet (is_accepted a && eqb channel c) (history.report unit outcome len) (report_answer (judge_of (channel_at s channel) unit outcome len)) refl)
      (one_like (λ i. is_on channel unit (ledgers i)) (with_report words a) (λ g. record { chosen = refl; opened = λ p. p }))
      (one_asked (λ i. is_on channel unit (ledgers i)) (with_report words a) (λ g. refl))
  accepted_asked (get file) z =
      quiet_asked (get file) z (λ c. call_agrees c s area K.good (get file)) (λ c. refl)
      (one_like (eqb file) (with_get (answer_of s area (get file))) (λ g. record { chosen = refl; opened = λ p. p }))
      (one_asked (eqb file) (with_get (answer_of s area (get file))) (λ g. refl))
  accepted_asked (put file words) z =
      quiet_asked (put file words) z (λ c. call_agrees c s area K.good (put file words)) (λ c. refl)
      (one_like (eqb file) (with_put words) (λ g. record { chosen = refl; opened = λ p. p })) (one_asked (eqb file) (with_put words) (λ g. refl))
  accepted_asked (seal file) z =
      quiet_asked (seal file) z (λ c. call_agrees c s area K.good (seal file)) (λ c. refl)
      (one_like (eqb file) with_seal (λ g. record { chosen = refl; opened = λ p. p })) (one_asked (eqb file) with_seal (λ g. refl))
  accepted_asked (skip file) z =
      quiet_asked (skip file) z (λ c. call_agrees c s area K.good (skip file)) (λ c. refl)
      (one_like (eqb file) with_skip (λ g. record { chosen = refl; opened = λ p. p })) (one_asked (eqb file) with_skip (λ g. refl))
  accepted_asked freeze z =
      quiet_asked freeze z (λ c. call_agrees c s area K.good freeze)
      (λ c. event_quiet (is_accepted (answer_of s area freeze)) history.freeze accepted refl)
      (λ i. like_self (ledgers i)) (λ i. refl)
  accepted_asked thaw z =
      quiet_asked thaw z (λ c. call_agrees c s area K.good thaw) (λ c. event_quiet (is_accepted (answer_of s area thaw)) history.thaw accepted refl)
      (λ i. like_self (ledgers i)) (λ i. refl)
  accepted_asked return z = quiet_asked return z (λ c. call_agrees c s area K.good return) (λ c. refl) (λ i. like_self (ledgers i)) (λ i. refl)
  accepted_asked running z = quiet_asked running z (λ c. call_agrees c s area K.good running) (λ c. refl) (λ i. like_self (ledgers i)) (λ i. refl)

  -- a refused call enters no ledger and changes nothing
  pub noted_asked : (call : Call) → Asked (answer_of s area call).state (λ i. noted i call (answer_of s area call) (ledgers i))
  noted_asked call = go (ℕ_discrete (answer_of s area call).refusal 0)
    where
      To : Bool → Type 0
      To t = Asked (answer_of s area call).state (λ i. cond t (entered i call (answer_of s area call) (ledgers i)) (ledgers i))

      go : Dec ((answer_of s area call).refusal ≡ 0) → To (is_accepted (answer_of s area call))
      go (yes z) = subst To (sym (eq-eqb (answer_of s area call).refusal 0 z)) (accepted_asked call z)
      go (no h) =
          subst To (sym (ne_eqb (answer_of s area call).refusal 0 h))
          (subst (λ (x : Answer). Asked x.state ledgers) (sym (call_alone_lem s area call h)) A)

-- ---- every history in which the pack alone writes the area

pub always_asked : (s : State) (area : List ℕ) (ledgers : ℕ → Ledger) → Kept s area ledgers → Asked s ledgers → (calls : List Call)
    → Asked (state_after s area calls) (λ i. ledger_after i s area (ledgers i) calls)
unfolding state_after ledger_after
always_asked s area ledgers K A [] = A
always_asked s area ledgers K A (call ∷ calls) =
    always_asked (answer_of s area call).state (answer_of s area call).area (λ i. noted i call (answer_of s area call) (ledgers i))
    (noted_kept s area ledgers K call) (noted_asked s area ledgers K A call) calls

-- from a fresh start
pub started_asked : (s : State) (area : List ℕ) (m w : ℕ) (masks : Masks) → (answer_of s area (fresh m w masks)).refusal ≡ 0
    → Asked (answer_of s area (fresh m w masks)).state (λ i. blank_ledger)
started_asked s area m w masks z i o op r = true_not_false o (sym ((started s area m w masks z).told i).opened)
