-- An ask or a report on one channel and one on another: each leaves what the other goes by, so their order makes no difference. Assumes nothing.
use mathlib.Core.Path.{◌≡◌, refl, sym, ap, subst, ◌∙◌}
use mathlib.Core.Logic.{◌≢◌, ◌⊎◌, inl, inr}
use mathlib.Core.Bool.{Bool, true, false, not, cond, ◌||◌, and-false}
use mathlib.Core.List.{List, []}
use Prim.Native.Nat.{ℕ, zero, suc, ◌+◌, ◌-◌, ◌*◌, ◌≤◌, ◌<◌}
use native.Mathlib.Decide.{ℕ_discrete, dec_lt}
use native.Mathlib.Omega.{arith}
use native.Mathlib.Nat.{mul-le-mul_right, suc-mul}
use lib.Dec.{leb, ltb, eqb}
use lib.ListN.{length, get_or, set, take, drop}
use lib.Seq.{set_comm, ext_get_or, take-take, get_or-take, get_or-drop}
use borrow.Author.Tests.{eq-eqb, ne_eqb, eqb-true, not-true}
use Rattle.area.specs.Lists.{first_along}
use Rattle.area.specs.Parts.{part_of, paste, pasted_in}
use Rattle.area.specs.Refusals.{lowest}
use Rattle.area.proofs.Walks.{true_not_false, and_left, and_right, or_either}
use Rattle.area.proofs.Firsts.{first_finds}
use Rattle.area.proofs.Pastes.{paste_fitting, paste_part}
use Rattle.channel.specs.declared.Channel.{Channel}
use Rattle.channel.specs.declared.Turn.{Turn}
use Rattle.channel.specs.declared.Turn.TheVariants.{Idle, Waiting, Displaced, Working}
use Rattle.channel.specs.Units.{position_at, turn_at, work_of, operation_at}
use Rattle.channel_turns.specs.Turns.{judge_of}
use Rattle.word.specs.declared.Checked.{Checked}
use Rattle.file.specs.declared.File.{File}
use Rattle.file.specs.declared.Side.{Side}
use Rattle.file.specs.declared.Side.TheVariants.{Neither}
use Rattle.file.specs.Sizes.{closed_file}
use Rattle.file.specs.Slots.{full_words}
use Rattle.file.specs.Sides.{buffer_at, slot_at, start_at, is_side, taken_side, oldest}
use Rattle.word.specs.CheckWords.{extra}
use Rattle.file_input.specs.Delivers.{has_full, took_buffer}
use Rattle.file_input.specs.Histories.{read, deliver, mark, giveBack, send}
use Rattle.file_input.proofs.Ages.{Aged, no_block, old, aged}
use Rattle.file_output.specs.Sends.{send_start, send_words, after_write}
use Rattle.pool.specs.Free.{file_count, held_by}
use Rattle.pool.specs.Masks.{free_mask}
use Rattle.pool.specs.Serving.{serves, serving_file}
use Rattle.routines.specs.declared.Naming.{Naming}
use Rattle.routines.specs.declared.Post.{Post}
use Rattle.routines.specs.declared.Routines.{Routines}
use Rattle.routines.specs.Ranks.{is_due}
use Rattle.routines.specs.Waits.{highest}
use Rattle.routines.specs.Right.{is_settled}
use Rattle.routines.specs.Posts.{no_naming, naming_wrong, due_of, post_at, waits_of, waits_in}
use Rattle.routines.proofs.Laws.Table.{due_at_lem}
use Rattle.state.specs.declared.State.{State}
use Rattle.state.specs.Places.{file_at, channel_at, no_channel}
use Rattle.state.specs.Stores.{with_file, with_channel, with_routines}
use Rattle.state.proofs.Lookups.{file_beyond}
use Rattle.state_sound.specs.Requests.{requested, is_none, is_write}
use Rattle.state_sound.specs.Soundness.{sound}
use Rattle.state_sound.proofs.FileFacts.{Sound}
use Rattle.state_sound.proofs.FilesKept.{owns}
use Rattle.state_sound.proofs.Facts.{SoundFacts, sound_facts}
use Rattle.state_sound.proofs.Shares.{apart_holds}
use Rattle.state_sound.proofs.Inside.{size_fits}
use Rattle.state_sound.proofs.Changes.{numbers, own_oldest}
use Rattle.state_sound.proofs.Events.{event_alike}
use Rattle.call_request.specs.declared.Effect.{Effect}
use Rattle.call_request.specs.declared.Effect.TheVariants.{Delivers, MeetsMark, GivesBack, Sends, Keeps}
use Rattle.call_request.specs.Effects.{is_delivery}
use Rattle.call_request.specs.Ask.{ask_refusal, asked_file, ask_on}
use Rattle.call_request.specs.Report.{effect_at, shown_block, report_refusal, reported_file, reported_area, report_on, report_on_area}
use Rattle.pack_request.specs.Changes.{changed_state}
use Rattle.call_request.specs.Named.{asked_routines, reported_routines}
use Rattle.pack_request.specs.Calls.{ask_wrong, ask_waits, ask_change, ask_by, file_of, report_wrong, report_by, report_by_area}
use Rattle.pack_request.proofs.Changed.{Frame, changed_taken}
use Rattle.pack_request.proofs.Ready.{ready_facts}
use Rattle.pack_request.proofs.AskTheorems.{ask_was_sound, ask_ready, ask_exactly, ask_frame, ask_file, ask_routines}
use Rattle.pack_request.proofs.ReportTheorems.{report_was_sound, serving, report_exactly, report_frame, report_books_own, report_file_lem, report_routines}
use Rattle.pack_request.proofs.ReportWords.{is_sending, sends_exactly, report_delivers}
use Rattle.pack_record.specs.Only.{Only}
use Rattle.pack_record.proofs.Written.{only_wider, pasted_only}
use Rattle.pack.specs.Calls.{adds_nothing, number_alone, Call, fresh, opening, close, ask, report, get, put, seal, skip, freeze, thaw, return, running, Added, working, reported, Answer, told, answer_of}
use Rattle.pack.specs.Histories.{is_answer}
use Rattle.pack.proofs.Kept.{Good, call_kept}
use Rattle.pack.proofs.Refused.{call_alone_lem}
use Rattle.demands_ledger.proofs.Frames.{others_same}
use Rattle.demands.specs.Orders.{Requests, asking, reporting, On, asks, reports, AnswersNaming, answers_naming, Says, says, afterwards, EitherOrder}
use Rattle.demands.proofs.Beside.{asked_other, asks_comm, reported_other, ask_report_comm, reports_comm}
use Rattle.std.specs.declared.option.Option.{Option}
use Rattle.std.specs.declared.option.Option.TheVariants.{Some, None}
use Rattle.std.specs.Option.{unwrap_or}
use Rattle.channel.specs.declared.Op.{Op}

-- ---- words pasted at two places apart

-- a word of what is pasted
paste_at : (at : ℕ) (ys xs : List ℕ) (n : ℕ) → at + length ys ≤ length xs → at ≤ n → n < at + length ys → get_or (pasted_in at ys xs) n 0 ≡ get_or ys (n - at) 0
paste_at at ys xs n fit l h =
    let e : at + (n - at) ≡ n = omega arith in
    let k : n - at < length ys = omega arith in
    ap (λ (zs : List ℕ). get_or zs n 0) (paste_fitting at ys xs fit)
    ∙ ap (λ (j : ℕ). get_or (paste at ys xs) j 0) (sym e)
    ∙ sym (get_or-take (length ys) (drop at (paste at ys xs)) (n - at) 0 k ∙ get_or-drop at (paste at ys xs) (n - at) 0)
    ∙ ap (λ (zs : List ℕ). get_or zs (n - at) 0) (paste_part at ys xs fit)

module _ (at bt : ℕ) (ys zs xs : List ℕ) (apart : (at + length ys ≤ bt) ⊎ (bt + length zs ≤ at)) (a : at + length ys ≤ length xs) (b : bt + length zs ≤ length xs)
  where
    first : Only at (length ys) xs (pasted_in at ys xs)
    first = pasted_only at ys xs a

    second : Only bt (length zs) xs (pasted_in bt zs xs)
    second = pasted_only bt zs xs b

    a₂ : at + length ys ≤ length (pasted_in bt zs xs)
    a₂ = omega (arith, second.long)

    b₂ : bt + length zs ≤ length (pasted_in at ys xs)
    b₂ = omega (arith, first.long)

    pub paste_comm : pasted_in at ys (pasted_in bt zs xs) ≡ pasted_in bt zs (pasted_in at ys xs)
    paste_comm =
        ext_get_or 0 (pasted_in at ys (pasted_in bt zs xs)) (pasted_in bt zs (pasted_in at ys xs)) (over.long ∙ second.long ∙ sym (under.long ∙ first.long)) (λ n l. each n)
      where
        over : Only at (length ys) (pasted_in bt zs xs) (pasted_in at ys (pasted_in bt zs xs))
        over = pasted_only at ys (pasted_in bt zs xs) a₂

        under : Only bt (length zs) (pasted_in at ys xs) (pasted_in bt zs (pasted_in at ys xs))
        under = pasted_only bt zs (pasted_in at ys xs) b₂

        beside : (ct k : ℕ) (us vs : List ℕ) → Only ct k us vs → (n : ℕ) → (n < ct) ⊎ (ct + k ≤ n) → get_or vs n 0 ≡ get_or us n 0
        beside ct k us vs O n (inl h) = O.before n h
        beside ct k us vs O n (inr h) = O.after n h

        outside : (ct k dt m n : ℕ) → (ct + k ≤ dt) ⊎ (dt + m ≤ ct) → ct ≤ n → n < ct + k → (n < dt) ⊎ (dt + m ≤ n)
        outside ct k dt m n (inl h) l r = inl (omega arith)
        outside ct k dt m n (inr h) l r = inr (omega arith)

        swap : (at + length ys ≤ bt) ⊎ (bt + length zs ≤ at) → (bt + length zs ≤ at) ⊎ (at + length ys ≤ bt)
        swap (inl h) = inr h
        swap (inr h) = inl h

        go : (n : ℕ) → Dec (n < at) → Dec (n < at + length ys) → Dec (n < bt) → Dec (n < bt + length zs)
            → get_or (pasted_in at ys (pasted_in bt zs xs)) n 0 ≡ get_or (pasted_in bt zs (pasted_in at ys xs)) n 0
        go n p q r t =
            let one = side at (length ys) n p q in
            let two = side bt (length zs) n r t in
            neither one two
          where
            side : (ct k n : ℕ) → Dec (n < ct) → Dec (n < ct + k) → ((n < ct) ⊎ (ct + k ≤ n)) ⊎ ((ct ≤ n) × (n < ct + k))
            side ct k n (yes h) d = inl (inl h)
            side ct k n (no h) (yes d) = inr (omega (arith, h), d)
            side ct k n (no h) (no d) = inl (inr (omega (arith, d)))

            neither : ((n < at) ⊎ (at + length ys ≤ n)) ⊎ ((at ≤ n) × (n < at + length ys)) → ((n < bt) ⊎ (bt + length zs ≤ n)) ⊎ ((bt ≤ n) × (n < bt + length zs))
                → get_or (pasted_in at ys (pasted_in bt zs xs)) n 0 ≡ get_or (pasted_in bt zs (pasted_in at ys xs)) n 0
            neither (inl one) (inl two) =
                beside at (length ys) (pasted_in bt zs xs) (pasted_in at ys (pasted_in bt zs xs)) over n one ∙ beside bt (length zs) xs (pasted_in bt zs xs) second n two
                ∙ sym (beside bt (length zs) (pasted_in at ys xs) (pasted_in bt zs (pasted_in at ys xs)) under n two ∙ beside at (length ys) xs (pasted_in at ys xs) first n one)
            neither (inr one) two =
                paste_at at ys (pasted_in bt zs xs) n a₂ one.0 one.1 ∙ sym (paste_at at ys xs n a one.0 one.1)
                ∙ sym (beside bt (length zs) (pasted_in at ys xs) (pasted_in bt zs (pasted_in at ys xs)) under n (outside at (length ys) bt (length zs) n apart one.0 one.1))
            neither (inl one) (inr two) =
                beside at (length ys) (pasted_in bt zs xs) (pasted_in at ys (pasted_in bt zs xs)) over n one
                ∙ paste_at bt zs xs n b two.0 two.1 ∙ sym (paste_at bt zs (pasted_in at ys xs) n b₂ two.0 two.1)

        each : (n : ℕ) → get_or (pasted_in at ys (pasted_in bt zs xs)) n 0 ≡ get_or (pasted_in bt zs (pasted_in at ys xs)) n 0
        each n = go n (dec_lt n at) (dec_lt n (at + length ys)) (dec_lt n bt) (dec_lt n (bt + length zs))

-- ---- an ask or a report as what it does: its answer, the file and the channel that it replaces, the words that it delivers, and what it makes of the
-- routines

record Act : Type 0 where
  refusal : ℕ
  added : Added
  start : ℕ
  count : ℕ
  file : ℕ
  channel : ℕ
  new_file : File
  new_channel : Channel
  delivers : Bool
  at : ℕ
  words : List ℕ
  routines : Routines → Routines

abbrev state_by : Act → State → State
state_by A s = changed_state s A.file A.channel A.refusal A.new_file A.new_channel (A.routines s.routines)

abbrev area_by : Act → List ℕ → List ℕ
area_by A area = cond (eqb A.refusal 0) (cond A.delivers (pasted_in A.at A.words area) area) area

abbrev answer_by : Act → State → List ℕ → Answer
answer_by A s area = record {
  refusal = A.refusal;
  added = A.added;
  shows = part_of A.start A.count (area_by A area);
  state = state_by A s;
  area = area_by A area;
}

-- of what is known of the state: whether it is wrong, the file f of that number, the channel, and whether a routine waits at the file's unit
ask_act : Bool → ℕ → File → Channel → ℕ → ℕ → Naming → Bool → Bool → Act
ask_act wrong file f c op priority naming waits frozen =
    let x = ask_on wrong f c op priority naming waits frozen in
    record {
      refusal = x.refusal;
      added = working x.working;
      start = 0;
      count = 0;
      file = file;
      channel = f.channel;
      new_file = x.file;
      new_channel = x.channel;
      delivers = false;
      at = 0;
      words = [];
      routines = λ r. asked_routines r f.channel f.unit naming;
    }

report_act : Bool → ℕ → File → ℕ → Channel → ℕ → ℕ → ℕ → ℕ → Bool → List ℕ → List ℕ → Act
report_act wrong file f channel c u outcome len w frozen area words =
    let x = report_on wrong f c u outcome len w frozen area words in
    record {
      refusal = x.refusal;
      added = reported x.result x.delivery x.working;
      start = x.start;
      count = x.count;
      file = file;
      channel = channel;
      new_file = x.file;
      new_channel = x.channel;
      delivers = is_delivery (effect_at c u outcome len (length words));
      at = start_at f w (taken_side f);
      words = words;
      routines = λ r. reported_routines r frozen channel u x.result;
    }

abbrev act_of : State → List ℕ → Call → Act
act_of s area (ask file op priority naming) =
    ask_act (ask_wrong s file) file (file_at s file) (channel_at s (file_at s file).channel) op priority naming (ask_waits s file) s.frozen
act_of s area (report channel unit outcome len words) =
    report_act (report_wrong s (length area) channel) (file_of s channel unit) (file_at s (file_of s channel unit)) channel (channel_at s channel) unit outcome len s.w
    s.frozen area words
act_of s area (fresh m w masks) = ask_act true 0 closed_file no_channel 0 0 no_naming false false
act_of s area (opening file channel unit flags size rlen) = ask_act true 0 closed_file no_channel 0 0 no_naming false false
act_of s area (close file) = ask_act true 0 closed_file no_channel 0 0 no_naming false false
act_of s area (get file) = ask_act true 0 closed_file no_channel 0 0 no_naming false false
act_of s area (put file words) = ask_act true 0 closed_file no_channel 0 0 no_naming false false
act_of s area (seal file) = ask_act true 0 closed_file no_channel 0 0 no_naming false false
act_of s area (skip file) = ask_act true 0 closed_file no_channel 0 0 no_naming false false
act_of s area freeze = ask_act true 0 closed_file no_channel 0 0 no_naming false false
act_of s area thaw = ask_act true 0 closed_file no_channel 0 0 no_naming false false
act_of s area return = ask_act true 0 closed_file no_channel 0 0 no_naming false false
act_of s area running = ask_act true 0 closed_file no_channel 0 0 no_naming false false

cond_same : {A : Type 0} (b : Bool) (x : A) → cond b x x ≡ x
cond_same true x = refl
cond_same false x = refl

-- the area after a report, by the report's own answer
area_is : (wrong : Bool) (f : File) (c : Channel) (u outcome len w : ℕ) (frozen : Bool) (area words : List ℕ)
    → report_on_area wrong f c u outcome len w area words
    ≡ cond (eqb (report_on wrong f c u outcome len w frozen area words).refusal 0)
    (cond (is_delivery (effect_at c u outcome len (length words))) (pasted_in (start_at f w (taken_side f)) words area) area) area
unfolding report_on report_on_area reported_area
area_is wrong f c u outcome len w frozen area words = go (ℕ_discrete (report_refusal wrong f c u outcome len w area words) 0)
  where
    n : ℕ
    n = report_refusal wrong f c u outcome len w area words

    go : Dec (n ≡ 0)
        → report_on_area wrong f c u outcome len w area words
        ≡ cond (eqb (report_on wrong f c u outcome len w frozen area words).refusal 0)
        (cond (is_delivery (effect_at c u outcome len (length words))) (pasted_in (start_at f w (taken_side f)) words area) area) area
    go (yes e) = rw (eq-eqb (report_refusal wrong f c u outcome len w area words) 0 e)
    go (no e) =
        rw (ne_eqb (report_refusal wrong f c u outcome len w area words) 0 e)
        (rw (ne_eqb (report_refusal wrong f c u outcome len w area words) 0 e))

answer_by_lem : (s : State) (area : List ℕ) (x : Call) → Requests x → answer_of s area x ≡ answer_by (act_of s area x) s area
unfolding answer_of ask_by report_by report_by_area ask_act report_act
answer_by_lem s area _ (asking {file} {op} {priority} {naming}) = rw (cond_same (eqb (ask_change s file op priority naming).refusal 0) area)
answer_by_lem s area _ (reporting {channel} {unit} {outcome} {len} {words}) =
    ap (told (report_by s area channel unit outcome len words))
    (area_is (report_wrong s (length area) channel) (file_at s (file_of s channel unit)) (channel_at s channel) unit outcome len s.w s.frozen area words)

-- ---- an accepted one, of the file i and the channel c, from the state s to the state t

-- the area is as it was, or only words of one of the file's buffers are new
data Lies (s : State) (i : ℕ) (area : List ℕ) : List ℕ → Type 0 where
  kept : Lies s i area area
  written : (b : ℕ) (zs : List ℕ) → held_by b (file_at s i) ≡ true → Only (b * s.w) s.w area zs → Lies s i area zs

record Did (s : State) (area : List ℕ) (i c : ℕ) (t : State) (zs : List ℕ) : Type 0 where
  is_open : (file_at s i).opened ≡ true
  bound : (file_at s i).channel ≡ c
  frame : Frame s t i c
  same : (file_at t i).channel ≡ c
  good : Good t
  lies : Lies s i area zs
  posts : (k v : ℕ) → k ≢ c → post_at t.routines k v ≡ post_at s.routines k v

-- nothing is left to enter
settled : (s : State) → Good s → is_settled s.routines.programs s.frozen (highest (waits_of s.routines)) ≡ true
settled s g = (sound_facts s g.right).routines.settled

asked_channel_lem : (op : ℕ) (f : File) → (asked_file op f).channel ≡ f.channel
unfolding asked_file
asked_channel_lem op f = go (eqb op 0)
  where
    go : (b : Bool) → (cond b (took_buffer f) f).channel ≡ f.channel
    go true = (event_alike f read).channel
    go false = refl

reported_channel : (x : Effect) (f : File) (n : ℕ) (found : Checked) → (reported_file x f n found).channel ≡ f.channel
unfolding reported_file after_write
reported_channel (Delivers failed) f n found = (event_alike f (deliver (n - extra f.sequence f.check) (record { failed = failed; check = found }))).channel
reported_channel MeetsMark f n found = (event_alike f mark).channel
reported_channel GivesBack f n found = (event_alike f giveBack).channel
reported_channel Sends f n found = (event_alike f send).channel
reported_channel Keeps f n found = refl

module _ (s : State) (area : List ℕ) (g : Good s) where
  ask_did : (file op priority : ℕ) (naming : Naming) → (answer_of s area (ask file op priority naming)).refusal ≡ 0
      → Did s area file (file_at s file).channel (answer_of s area (ask file op priority naming)).state (answer_of s area (ask file op priority naming)).area
  unfolding answer_of ask_refusal
  ask_did file op priority naming z = record {
    is_open = (ask_ready (ask_wrong s file) (file_at s file) (channel_at s (file_at s file).channel) op priority naming (ask_waits s file) (sym (ask_exactly s file op priority naming).number ∙ z)).is_open;
    bound = refl;
    frame = ask_frame s file op priority naming;
    same = ap (λ (f : File). f.channel) (ask_file s file op priority naming z) ∙ asked_channel_lem op (file_at s file);
    good = call_kept s area g (ask file op priority naming);
    lies = kept;
    posts = λ k v ne.
        ap (λ (r : Routines). post_at r k v) (ask_routines s file op priority naming z)
        ∙ asked_other s.routines (file_at s file).channel (file_at s file).unit (due_of naming) k v ne;
  }

  module _ (channel unit outcome len : ℕ) (words : List ℕ) (z : (answer_of s area (report channel unit outcome len words)).refusal ≡ 0) where
    abbrev x : Call
    x = report channel unit outcome len words

    abbrev i : ℕ
    i = file_of s channel unit

    abbrev f : File
    f = file_at s i

    served : serves channel unit f ≡ true
    unfolding answer_of
    served = (report_books_own s area channel unit outcome len words g.sixteen z).bound

    effect_lies : (b : Bool) → is_delivery (effect_at (channel_at s channel) unit outcome len (length words)) ≡ b → Lies s i area (answer_of s area x).area
    unfolding answer_of report_refusal report_act
    effect_lies true d =
        let D = report_delivers s area channel unit outcome len words g.sixteen (sym (report_exactly s area channel unit outcome len words).number ∙ z) d in
        let b = (buffer_at f (taken_side f)).number in
        written b (answer_of s area x).area D.held
        (subst (Only (b * s.w) s.w area) (sym D.pasted)
        (subst (Only (b * s.w) s.w area) (paste_fitting (b * s.w) words area D.inside)
        (only_wider (b * s.w) (length words) (b * s.w) s.w area (pasted_in (b * s.w) words area) (pasted_only (b * s.w) words area D.inside) (omega arith) (omega (arith, D.room)))))
    effect_lies false d =
        subst (Lies s i area) (sym (ap (λ (a : Answer). a.area) (answer_by_lem s area x reporting) ∙ stays)) kept
      where
        stays : area_by (act_of s area x) area ≡ area
        stays = rw d (cond_same (eqb (act_of s area x).refusal 0) area)

    report_did : Did s area i channel (answer_of s area x).state (answer_of s area x).area
    unfolding answer_of
    report_did = record {
      is_open = and_left f.opened _ served;
      bound = eqb-true f.channel channel (and_left (eqb f.channel channel) _ (and_right f.opened _ served));
      frame = report_frame s area channel unit outcome len words;
      same =
          ap (λ (k : File). k.channel) (report_file_lem s area channel unit outcome len words g.sixteen z)
          ∙ reported_channel (effect_at (channel_at s channel) unit outcome len (length words)) f (length words) _
          ∙ eqb-true f.channel channel (and_left (eqb f.channel channel) _ (and_right f.opened _ served));
      good = call_kept s area g x;
      lies = effect_lies (is_delivery (effect_at (channel_at s channel) unit outcome len (length words))) refl;
      posts = λ k v ne.
          ap (λ (r : Routines). post_at r k v) (report_routines s area channel unit outcome len words z)
          ∙ reported_other s.routines s.frozen channel unit _ (settled s g) k v ne;
    }

  did : (x : Call) → Requests x → (answer_of s area x).refusal ≡ 0
      → Did s area (act_of s area x).file (act_of s area x).channel (answer_of s area x).state (answer_of s area x).area
  unfolding ask_act report_act
  did _ (asking {file} {op} {priority} {naming}) z = ask_did file op priority naming z
  did _ (reporting {channel} {unit} {outcome} {len} {words}) z = report_did channel unit outcome len words z

-- ---- what another call goes by

first_same : (next : ℕ → ℕ) (test other : ℕ → Bool) (n u : ℕ) → ((k : ℕ) → test k ≡ other k) → first_along next test n u ≡ first_along next other n u
unfolding first_along
first_same next test other zero u e = refl
first_same next test other (suc n) u e =
    ap (λ (b : Bool). cond b (Some u) (first_along next test n (next u))) (e u)
    ∙ ap (λ (f : Option ℕ). cond (other u) (Some u) f) (first_same next test other n (next u) e)

-- a report goes by the area only where it shows a block
shown_alike : (wrong : Bool) (k : ℕ) (f : File) (n : ℕ) (c : Channel) (u outcome len w : ℕ) (frozen : Bool) (xs zs words : List ℕ)
    → shown_block (effect_at c u outcome len (length words)) w f zs ≡ shown_block (effect_at c u outcome len (length words)) w f xs
    → report_act wrong k f n c u outcome len w frozen zs words ≡ report_act wrong k f n c u outcome len w frozen xs words
unfolding report_act report_on report_refusal
shown_alike wrong k f n c u outcome len w frozen xs zs words e = rw e

work_asked : (t : Turn) → is_write (work_of t) ≡ true → is_write (requested t) ≡ true
work_asked Idle e = e
work_asked (Waiting q) e = true_not_false e refl
work_asked (Displaced q) e = true_not_false e refl
work_asked (Working q) e = e

some_asked : (r : Option Op) → is_write r ≡ true → is_none r ≡ false
some_asked (Some op) e = refl
some_asked None e = true_not_false e refl

module _ (s : State) (area : List ℕ) (g : Good s) (i c : ℕ) (t : State) (zs : List ℕ) (D : Did s area i c t zs) where
  facts : SoundFacts s
  facts = sound_facts s g.right

  right_same : sound t ≡ sound s
  right_same = D.good.right ∙ sym g.right

  long : length zs ≡ length area
  long = go zs D.lies
    where
      go : (ys : List ℕ) → Lies s i area ys → length ys ≡ length area
      go ys kept = refl
      go ys (written b _ h O) = O.long

  other : (k : ℕ) → (file_at s k).channel ≢ c → k ≢ i
  other k ne e = ne (ap (λ (n : ℕ). (file_at s n).channel) e ∙ D.bound)

  ask_same : (file op priority : ℕ) (naming : Naming) → (file_at s file).channel ≢ c → act_of t zs (ask file op priority naming) ≡ act_of s area (ask file op priority naming)
  ask_same file op priority naming ne =
      let f = D.frame.files file (other file ne) in
      let k = D.frame.channels (file_at s file).channel ne in
      let c₁ = (file_at s file).channel in
      let u₁ = (file_at s file).unit in
      let waits : waits_in t.routines c₁ u₁ ≡ waits_in s.routines c₁ u₁ =
      ap is_due (due_at_lem t.routines c₁ u₁ ∙ ap (λ (x : Post). x.due) (D.posts c₁ u₁ ne) ∙ sym (due_at_lem s.routines c₁ u₁)) in
      rw (right_same, f, k, D.frame.frozen)
      (ap (λ (b : Bool). ask_act (ask_wrong s file) file (file_at s file) (channel_at s (file_at s file).channel) op priority naming b s.frozen) waits)

  module _ (n u : ℕ) (ne : n ≢ c) where
    off : (f : File) → f.channel ≡ c → serves n u f ≡ false
    off f e = rw (e, ne_eqb c n (λ q. ne (sym q))) (and-false f.opened)

    serves_same : (k : ℕ) → serves n u (file_at t k) ≡ serves n u (file_at s k)
    serves_same k = go (ℕ_discrete k i)
      where
        go : Dec (k ≡ i) → serves n u (file_at t k) ≡ serves n u (file_at s k)
        go (yes e) = ap (λ (j : ℕ). serves n u (file_at t j)) e ∙ off (file_at t i) D.same ∙ sym (ap (λ (j : ℕ). serves n u (file_at s j)) e ∙ off (file_at s i) D.bound)
        go (no h) = ap (serves n u) (D.frame.files k h)

    serving_same : file_of t n u ≡ file_of s n u
    unfolding serving_file
    serving_same = ap (λ (x : Option ℕ). unwrap_or x file_count) (first_same suc (λ k. serves n u (file_at t k)) (λ k. serves n u (file_at s k)) file_count 0 serves_same)

    not_own : file_of s n u ≢ i
    unfolding serving_file
    not_own = go (serving_file s.files n u) refl
      where
        go : (x : Option ℕ) → serving_file s.files n u ≡ x → unwrap_or x file_count ≢ i
        go (Some k) e q =
            true_not_false (first_finds suc (λ j. serves n u (file_at s j)) file_count 0 k e).passes
            (ap (λ (j : ℕ). serves n u (file_at s j)) q ∙ off (file_at s i) D.bound)
        go None e q =
            true_not_false D.is_open
            (ap (λ (f : File). f.opened) (ap (file_at s) (sym q) ∙ file_beyond s.files file_count (omega (arith, g.sixteen))))

    abbrev own : File
    own = file_at s (file_of s n u)

    file_same : file_at t (file_of s n u) ≡ own
    file_same = D.frame.files (file_of s n u) not_own

    channel_same : channel_at t n ≡ channel_at s n
    channel_same = D.frame.channels n ne

    -- the block of a write lies in a buffer of its file
    block_same : is_write (requested (turn_at (channel_at s n) u)) ≡ true → part_of (send_start s.w own) (send_words own) zs ≡ part_of (send_start s.w own) (send_words own) area
    unfolding send_start send_words
    block_same w =
        let at = serving s.files n u g.sixteen (facts.served n u (some_asked (requested (turn_at (channel_at s n) u)) w)) in
        let o = and_left own.opened _ at in
        let ch = eqb-true own.channel n (and_left (eqb own.channel n) _ (and_right own.opened _ at)) in
        let un = eqb-true own.unit u (and_right (eqb own.channel n) _ (and_right own.opened _ at)) in
        let asked : requested (turn_at (channel_at s own.channel) own.unit) ≡ requested (turn_at (channel_at s n) u) =
        ap (λ (j : ℕ). requested (turn_at (channel_at s j) own.unit)) ch ∙ ap (λ (j : ℕ). requested (turn_at (channel_at s n) j)) un in
        let full : has_full own ≡ true = or_either (not (is_write (requested (turn_at (channel_at s own.channel) own.unit)))) (has_full own)
        (ready_facts _ own (facts.ready (file_of s n u) o)).block
        (λ e. true_not_false (ap is_write asked ∙ w) (not-true _ e)) (λ e. e) in
        let S = facts.files (file_of s n u) o in
        go (oldest own) (aged own) full (own_oldest s.m s.w own S full) o S
      where
        go : (k : Side) → Aged own k → is_side k ≡ true → owns own k ≡ true → own.opened ≡ true → Sound s.m s.w own
            → part_of (start_at own s.w k) (full_words (slot_at own k) + extra own.sequence own.check) zs
            ≡ part_of (start_at own s.w k) (full_words (slot_at own k) + extra own.sequence own.check) area
        go Neither (no_block e) t o is_open S = true_not_false t refl
        go k (old _ v at e rest t x l gone moved) d o is_open S =
            let N = numbers s.m s.w own k v at e S x in
            let words : full_words (slot_at own k) ≡ v = ap full_words x in
            let fit : full_words (slot_at own k) + extra own.sequence own.check ≤ s.w = omega (arith, size_fits s.m s.w own S, N.fit) in
            sym (take-take (full_words (slot_at own k) + extra own.sequence own.check) s.w (drop (start_at own s.w k) zs) fit)
            ∙ ap (take (full_words (slot_at own k) + extra own.sequence own.check)) (buffer zs D.lies)
            ∙ take-take (full_words (slot_at own k) + extra own.sequence own.check) s.w (drop (start_at own s.w k) area) fit
          where
            buffer : (ys : List ℕ) → Lies s i area ys → part_of (start_at own s.w k) s.w ys ≡ part_of (start_at own s.w k) s.w area
            buffer ys kept = refl
            buffer ys (written b _ h O) = others_same s g i b h area ys O (file_of s n u) not_own is_open k o

    shown_same : (outcome len k : ℕ) → shown_block (effect_at (channel_at s n) u outcome len k) s.w own zs ≡ shown_block (effect_at (channel_at s n) u outcome len k) s.w own area
    unfolding operation_at
    shown_same outcome len k = go (effect_at (channel_at s n) u outcome len k) refl
      where
        go : (x : Effect) → effect_at (channel_at s n) u outcome len k ≡ x → shown_block x s.w own zs ≡ shown_block x s.w own area
        go (Delivers failed) e = refl
        go MeetsMark e = refl
        go GivesBack e = refl
        go Sends e =
            let sends = sym (sends_exactly (ltb 0 k) (operation_at (channel_at s n) u) (position_at (channel_at s n) u) (judge_of (channel_at s n) u outcome len)) ∙ ap is_sending e in
            block_same (writes (and_left (is_write (operation_at (channel_at s n) u)) _ sends))
          where
            writes : is_write (operation_at (channel_at s n) u) ≡ true → is_write (requested (turn_at (channel_at s n) u)) ≡ true
            writes = work_asked (turn_at (channel_at s n) u)
        go Keeps e = refl

    report_same : (outcome len : ℕ) (words : List ℕ) → act_of t zs (report n u outcome len words) ≡ act_of s area (report n u outcome len words)
    report_same outcome len words =
        rw (right_same, serving_same, file_same, channel_same, long, D.frame.buffers, D.frame.words, D.frame.frozen)
        (shown_alike _ (file_of s n u) own n (channel_at s n) u outcome len s.w s.frozen area zs words (shown_same outcome len (length words)))

-- ---- the answer to another call

-- an ask of a file that is not open is refused, whatever its channel is
closed_number : (s : State) (area : List ℕ) (file op priority : ℕ) (naming : Naming) → (file_at s file).opened ≡ false
    → (answer_of s area (ask file op priority naming)).refusal ≡ cond (ask_wrong s file || (ltb 2 op || (ltb 1 priority || naming_wrong naming))) 1 5
unfolding answer_of lowest
closed_number s area file op priority naming o = (ask_exactly s file op priority naming).number ∙ rw o

one_or_five : (b : Bool) → ◌≢◌ {A = ℕ} (cond b 1 5) 0
one_or_five true e = omega arith
one_or_five false e = omega arith

refused_says : (s : State) (area : List ℕ) (x : Call) → (answer_of s area x).refusal ≢ 0
    → says (answer_of s area x) ≡ record { refusal = (answer_of s area x).refusal; added = adds_nothing x; shows = [] }
refused_says s area x h = ap says (call_alone_lem s area x h)

-- the words that an answer shows are the same in an area that shows the same block
shows_alike : (wrong : Bool) (k : ℕ) (f : File) (n : ℕ) (c : Channel) (u outcome len w : ℕ) (frozen : Bool) (xs zs words : List ℕ)
    → shown_block (effect_at c u outcome len (length words)) w f zs ≡ shown_block (effect_at c u outcome len (length words)) w f xs
    → let A = report_act wrong k f n c u outcome len w frozen xs words in part_of A.start A.count (area_by A zs) ≡ part_of A.start A.count (area_by A xs)
unfolding report_act report_on
shows_alike wrong k f n c u outcome len w frozen xs zs words e = go (ℕ_discrete (report_refusal wrong f c u outcome len w xs words) 0) (effect_at c u outcome len (length words)) refl
  where
    A : Act
    A = report_act wrong k f n c u outcome len w frozen xs words

    go : Dec (report_refusal wrong f c u outcome len w xs words ≡ 0) → (x : Effect) → effect_at c u outcome len (length words) ≡ x
        → part_of A.start A.count (area_by A zs) ≡ part_of A.start A.count (area_by A xs)
    go (no h) x q = rw (ne_eqb (report_refusal wrong f c u outcome len w xs words) 0 h)
    go (yes z) (Delivers failed) q = rw (eq-eqb (report_refusal wrong f c u outcome len w xs words) 0 z, q)
    go (yes z) MeetsMark q = rw (eq-eqb (report_refusal wrong f c u outcome len w xs words) 0 z, q)
    go (yes z) GivesBack q = rw (eq-eqb (report_refusal wrong f c u outcome len w xs words) 0 z, q)
    go (yes z) Sends q =
        let shown : shown_block Sends w f zs ≡ shown_block Sends w f xs = rw q at e in
        rw (eq-eqb (report_refusal wrong f c u outcome len w xs words) 0 z, q) shown
    go (yes z) Keeps q = rw (eq-eqb (report_refusal wrong f c u outcome len w xs words) 0 z, q)

module _ (s : State) (area : List ℕ) (g : Good s) (i c : ℕ) (t : State) (zs : List ℕ) (D : Did s area i c t zs) where
  -- a call that is on a channel, and not on that one
  data Elsewhere : Call → Type 0 where
    asked : (file op priority : ℕ) (naming : Naming) → (file_at s file).opened ≡ true → (file_at s file).channel ≢ c → Elsewhere (ask file op priority naming)
    closed : (file op priority : ℕ) (naming : Naming) → (file_at s file).opened ≡ false → Elsewhere (ask file op priority naming)
    heard : (channel unit outcome len : ℕ) (words : List ℕ) → channel ≢ c → Elsewhere (report channel unit outcome len words)

  elsewhere : (y : Call) → Requests y → (On s c y → ⊥) → Elsewhere y
  elsewhere _ (asking {file} {op} {priority} {naming}) apart = go (file_at s file).opened refl
    where
      go : (b : Bool) → (file_at s file).opened ≡ b → Elsewhere (ask file op priority naming)
      go true o = asked file op priority naming o (λ e. apart (asks o e))
      go false o = closed file op priority naming o
  elsewhere _ (reporting {channel} {unit} {outcome} {len} {words}) apart = heard channel unit outcome len words (λ e. apart (reports e))

  says_same : (y : Call) → Elsewhere y → says (answer_of t zs y) ≡ says (answer_of s area y)
  unfolding ask_act
  says_same y (asked file op priority naming o ne) =
      let same = ask_same s area g i c t zs D file op priority naming ne in
      ap says (answer_by_lem t zs y asking) ∙ ap (λ (A : Act). record { refusal = A.refusal; added = A.added; shows = [] }) same ∙ sym (ap says (answer_by_lem s area y asking))
  says_same y (closed file op priority naming o) =
      let still : (file_at t file).opened ≡ false = ap (λ (f : File). f.opened) (D.frame.files file (λ e. true_not_false D.is_open (ap (λ (n : ℕ). (file_at s n).opened) (sym e) ∙ o))) ∙ o in
      let number : (answer_of t zs y).refusal ≡ (answer_of s area y).refusal =
      closed_number t zs file op priority naming still
      ∙ ap (λ (b : Bool). cond ((not b || leb file_count file) || (ltb 2 op || (ltb 1 priority || naming_wrong naming))) 1 5) (right_same s area g i c t zs D)
      ∙ sym (closed_number s area file op priority naming o) in
      let refused : (answer_of s area y).refusal ≢ 0 = λ e. one_or_five (ask_wrong s file || (ltb 2 op || (ltb 1 priority || naming_wrong naming))) (sym (closed_number s area file op priority naming o) ∙ e) in
      refused_says t zs y (λ e. refused (sym number ∙ e))
      ∙ ap (λ (n : ℕ). record { refusal = n; added = adds_nothing y; shows = [] }) number
      ∙ sym (refused_says s area y refused)
  says_same y (heard channel unit outcome len words ne) =
      let same = report_same s area g i c t zs D channel unit ne outcome len words in
      ap says (answer_by_lem t zs y reporting)
      ∙ ap (λ (A : Act). record { refusal = A.refusal; added = A.added; shows = part_of A.start A.count (area_by A zs) }) same
      ∙ ap (λ (ws : List ℕ). record { refusal = (act_of s area y).refusal; added = (act_of s area y).added; shows = ws })
      (shows_alike _ (file_of s channel unit) (file_at s (file_of s channel unit)) channel (channel_at s channel) unit outcome len s.w s.frozen area zs words
      (shown_same s area g i c t zs D channel unit ne outcome len (length words)))
      ∙ sym (ap says (answer_by_lem s area y reporting))

  -- an accepted one does after it what it does before it
  act_same : (y : Call) → Elsewhere y → (answer_of s area y).refusal ≡ 0 → act_of t zs y ≡ act_of s area y
  act_same y (asked file op priority naming o ne) z = ask_same s area g i c t zs D file op priority naming ne
  act_same y (closed file op priority naming o) z = absurd (one_or_five (ask_wrong s file || (ltb 2 op || (ltb 1 priority || naming_wrong naming))) (sym (closed_number s area file op priority naming o) ∙ z))
  act_same y (heard channel unit outcome len words ne) z = report_same s area g i c t zs D channel unit ne outcome len words

-- ---- both accepted

state_alike : (m w : ℕ) (frozen : Bool) (cs ds : List Channel) (fs gs : List File) (a b : ℕ) (q r : Routines) → cs ≡ ds → fs ≡ gs → a ≡ b → q ≡ r
    → ◌≡◌ {A = State} (record { m = m; w = w; frozen = frozen; channels = cs; files = fs; free = a; routines = q })
    (record { m = m; w = w; frozen = frozen; channels = ds; files = gs; free = b; routines = r })
state_alike m w frozen cs ds fs gs a b q r h k l n = rw (h, k, l, n)

-- what an accepted one makes of a state
abbrev made_by : Act → State → State
made_by A s = with_routines (with_file (with_channel s A.channel A.new_channel) A.file A.new_file) (A.routines s.routines)

-- two files and two channels replaced: the free mask of a sound state follows from its files
module _ (s : State) (A B : Act) where
  abbrev one : State
  one = made_by B (made_by A s)

  abbrev two : State
  two = made_by A (made_by B s)

  states_comm : A.file ≢ B.file → A.channel ≢ B.channel → B.routines (A.routines s.routines) ≡ A.routines (B.routines s.routines)
      → sound one ≡ true → sound two ≡ true → one ≡ two
  unfolding with_file with_channel with_routines
  states_comm ne nd both p q =
      let files : set (set s.files A.file A.new_file) B.file B.new_file ≡ set (set s.files B.file B.new_file) A.file A.new_file =
      set_comm s.files A.file B.file A.new_file B.new_file ne in
      state_alike s.m s.w s.frozen _ _ _ _ _ _ _ _ (set_comm s.channels A.channel B.channel A.new_channel B.new_channel nd) files
      ((sound_facts one p).free ∙ ap (free_mask s.m) files ∙ sym (sound_facts two q).free) both

area_taken : (A : Act) (xs : List ℕ) → A.refusal ≡ 0 → area_by A xs ≡ cond A.delivers (pasted_in A.at A.words xs) xs
area_taken A xs z = rw (eq-eqb A.refusal 0 z)

-- the words that a report delivers go into a buffer of its file, which has room for them
record Fits (s : State) (xs : List ℕ) (A : Act) : Type 0 where
  buffer : ℕ
  place : A.at ≡ buffer * s.w
  held : held_by buffer (file_at s A.file) ≡ true
  room : length A.words ≤ s.w
  inside : A.at + length A.words ≤ length xs

fits : (s : State) (area : List ℕ) → Good s → (x : Call) → Requests x → (answer_of s area x).refusal ≡ 0 → (act_of s area x).delivers ≡ true → Fits s area (act_of s area x)
unfolding answer_of ask_act report_act report_refusal
fits s area g _ (asking {file} {op} {priority} {naming}) z d = true_not_false d refl
fits s area g _ (reporting {channel} {unit} {outcome} {len} {words}) z d =
    let D = report_delivers s area channel unit outcome len words g.sixteen (sym (report_exactly s area channel unit outcome len words).number ∙ z) d in
    record { buffer = (buffer_at (file_at s (file_of s channel unit)) (taken_side (file_at s (file_of s channel unit)))).number; place = refl; held = D.held; room = D.room; inside = D.inside }

buffers_apart_lem : (w a b n k : ℕ) → a ≢ b → n ≤ w → k ≤ w → (a * w + n ≤ b * w) ⊎ (b * w + k ≤ a * w)
buffers_apart_lem w a b n k ne l r = go (dec_lt a b) (dec_lt b a)
  where
    go : Dec (a < b) → Dec (b < a) → (a * w + n ≤ b * w) ⊎ (b * w + k ≤ a * w)
    go (yes h) d = inl (omega (arith, mul-le-mul_right w h, suc-mul a w))
    go (no h) (yes d) = inr (omega (arith, mul-le-mul_right w d, suc-mul b w))
    go (no h) (no d) = absurd (ne (omega (arith, h, d)))

-- an accepted call is on its channel
on_channel_lem : (s : State) (area : List ℕ) (g : Good s) (x : Call) → Requests x → (answer_of s area x).refusal ≡ 0 → On s (act_of s area x).channel x
unfolding ask_act report_act
on_channel_lem s area g _ (asking {file} {op} {priority} {naming}) z = asks (ask_did s area g file op priority naming z).is_open refl
on_channel_lem s area g _ (reporting {channel} {unit} {outcome} {len} {words}) z = reports refl

-- what two of them make of the routines: not both answer requests that name one
routines_comm : (s : State) (area : List ℕ) → Good s → (x y : Call) → Requests x → Requests y → (act_of s area x).channel ≢ (act_of s area y).channel
    → (AnswersNaming s area x → AnswersNaming s area y → ⊥) → (answer_of s area x).refusal ≡ 0 → (answer_of s area y).refusal ≡ 0
    → (act_of s area y).routines ((act_of s area x).routines s.routines) ≡ (act_of s area x).routines ((act_of s area y).routines s.routines)
unfolding answer_of ask_act report_act report_by
routines_comm s area g _ _ (asking {file} {op} {priority} {naming}) (asking {file = j} {op = p} {priority = q} {naming = n}) ne single zx zy =
    asks_comm s.routines (file_at s file).channel (file_at s file).unit (due_of naming) (file_at s j).channel (file_at s j).unit (due_of n) ne
routines_comm s area g _ _ (asking {file} {op} {priority} {naming}) (reporting {channel} {unit} {outcome} {len} {words}) ne single zx zy =
    ask_report_comm s.routines s.frozen channel unit _ (file_at s file).channel (file_at s file).unit (due_of naming) (settled s g) (λ e. ne (sym e))
routines_comm s area g _ _ (reporting {channel} {unit} {outcome} {len} {words}) (asking {file} {op} {priority} {naming}) ne single zx zy =
    sym (ask_report_comm s.routines s.frozen channel unit _ (file_at s file).channel (file_at s file).unit (due_of naming) (settled s g) ne)
routines_comm s area g _ _ (reporting {channel} {unit} {outcome} {len} {words}) (reporting {channel = k} {unit = v} {outcome = o} {len = n} {words = ws}) ne single zx zy =
    reports_comm s.routines s.frozen channel unit _ k v _ (settled s g) ne
    (λ p q.
    let a = is_answer (answer_of s area (report channel unit outcome len words)).added in
    let b = is_answer (answer_of s area (report k v o n ws)).added in
    single (answers_naming zx (and_left a _ p) (and_right a _ p)) (answers_naming zy (and_left b _ q) (and_right b _ q)))

module _ (s : State) (area : List ℕ) (g : Good s) (x y : Call) (rx : Requests x) (ry : Requests y) (apart : (c : ℕ) → On s c x → On s c y → ⊥)
    (single : AnswersNaming s area x → AnswersNaming s area y → ⊥)
    (zx : (answer_of s area x).refusal ≡ 0) (zy : (answer_of s area y).refusal ≡ 0) where
  abbrev A : Act
  A = act_of s area x

  abbrev B : Act
  B = act_of s area y

  abbrev s₁ : State
  s₁ = (answer_of s area x).state

  abbrev xs₁ : List ℕ
  xs₁ = (answer_of s area x).area

  abbrev s₂ : State
  s₂ = (answer_of s area y).state

  abbrev xs₂ : List ℕ
  xs₂ = (answer_of s area y).area

  did_x : Did s area A.file A.channel s₁ xs₁
  did_x = did s area g x rx zx

  did_y : Did s area B.file B.channel s₂ xs₂
  did_y = did s area g y ry zy

  x_there : Elsewhere s area g B.file B.channel s₂ xs₂ did_y x
  x_there = elsewhere s area g B.file B.channel s₂ xs₂ did_y x rx (λ o. apart B.channel o (on_channel_lem s area g y ry zy))

  y_there : Elsewhere s area g A.file A.channel s₁ xs₁ did_x y
  y_there = elsewhere s area g A.file A.channel s₁ xs₁ did_x y ry (λ o. apart A.channel (on_channel_lem s area g x rx zx) o)

  channels_apart : A.channel ≢ B.channel
  channels_apart e = apart A.channel (on_channel_lem s area g x rx zx) (subst (λ (c : ℕ). On s c y) (sym e) (on_channel_lem s area g y ry zy))

  files_apart : A.file ≢ B.file
  files_apart e = channels_apart (sym did_x.bound ∙ ap (λ (i : ℕ). (file_at s i).channel) e ∙ did_y.bound)

  taken_x : A.refusal ≡ 0
  taken_x = sym (ap (λ (a : Answer). a.refusal) (answer_by_lem s area x rx)) ∙ zx

  taken_y : B.refusal ≡ 0
  taken_y = sym (ap (λ (a : Answer). a.refusal) (answer_by_lem s area y ry)) ∙ zy

  y_after : answer_of s₁ xs₁ y ≡ answer_by B s₁ xs₁
  y_after = answer_by_lem s₁ xs₁ y ry ∙ ap (λ (C : Act). answer_by C s₁ xs₁) (act_same s area g A.file A.channel s₁ xs₁ did_x y y_there zy)

  x_after : answer_of s₂ xs₂ x ≡ answer_by A s₂ xs₂
  x_after = answer_by_lem s₂ xs₂ x rx ∙ ap (λ (C : Act). answer_by C s₂ xs₂) (act_same s area g B.file B.channel s₂ xs₂ did_y x x_there zx)

  made : (C : Act) (t : State) → C.refusal ≡ 0 → state_by C t ≡ made_by C t
  made C t z = changed_taken t C.file C.channel C.refusal C.new_file C.new_channel (C.routines t.routines) z

  both : (C E : Act) (t : State) (z : C.refusal ≡ 0) (k : E.refusal ≡ 0) → state_by E (state_by C t) ≡ made_by E (made_by C t)
  both C E t z k = made E (state_by C t) k ∙ ap (made_by E) (made C t z)

  state_xy : (answer_of s₁ xs₁ y).state ≡ one s A B
  state_xy = ap (λ (a : Answer). a.state) y_after ∙ ap (λ (a : Answer). state_by B a.state) (answer_by_lem s area x rx) ∙ both A B s taken_x taken_y

  state_yx : (answer_of s₂ xs₂ x).state ≡ two s A B
  state_yx = ap (λ (a : Answer). a.state) x_after ∙ ap (λ (a : Answer). state_by A a.state) (answer_by_lem s area y ry) ∙ both B A s taken_y taken_x

  states_same : (answer_of s₁ xs₁ y).state ≡ (answer_of s₂ xs₂ x).state
  states_same =
      state_xy
      ∙ states_comm s A B files_apart channels_apart (routines_comm s area g x y rx ry channels_apart single zx zy)
      (sym (ap sound state_xy) ∙ (call_kept s₁ xs₁ did_x.good y).right) (sym (ap sound state_yx) ∙ (call_kept s₂ xs₂ did_y.good x).right)
      ∙ sym state_yx

  pasted_both : (a b : Bool) → A.delivers ≡ a → B.delivers ≡ b
      → cond b (pasted_in B.at B.words (cond a (pasted_in A.at A.words area) area)) (cond a (pasted_in A.at A.words area) area)
      ≡ cond a (pasted_in A.at A.words (cond b (pasted_in B.at B.words area) area)) (cond b (pasted_in B.at B.words area) area)
  pasted_both true true p q =
      let M = fits s area g x rx zx p in
      let N = fits s area g y ry zy q in
      let ne : M.buffer ≢ N.buffer = λ e.
      true_not_false N.held (subst (λ (b : ℕ). held_by b (file_at s B.file) ≡ false) e
      (apart_holds M.buffer (file_at s A.file) (file_at s B.file) ((sound_facts s g.right).apart A.file B.file files_apart) M.held)) in
      let away : (A.at + length A.words ≤ B.at) ⊎ (B.at + length B.words ≤ A.at) =
      rw (M.place, N.place) (buffers_apart_lem s.w M.buffer N.buffer (length A.words) (length B.words) ne M.room N.room) in
      sym (paste_comm A.at B.at A.words B.words area away M.inside N.inside)
  pasted_both true false p q = refl
  pasted_both false true p q = refl
  pasted_both false false p q = refl

  areas_same : (answer_of s₁ xs₁ y).area ≡ (answer_of s₂ xs₂ x).area
  areas_same =
      ap (λ (a : Answer). a.area) y_after ∙ ap (λ (a : Answer). area_by B a.area) (answer_by_lem s area x rx)
      ∙ area_taken B (area_by A area) taken_y ∙ ap (λ (ws : List ℕ). cond B.delivers (pasted_in B.at B.words ws) ws) (area_taken A area taken_x)
      ∙ pasted_both A.delivers B.delivers refl refl
      ∙ sym (ap (λ (a : Answer). a.area) x_after ∙ ap (λ (a : Answer). area_by A a.area) (answer_by_lem s area y ry)
      ∙ area_taken A (area_by B area) taken_x ∙ ap (λ (ws : List ℕ). cond A.delivers (pasted_in A.at A.words ws) ws) (area_taken B area taken_y))

  both_accepted : EitherOrder s area x y
  both_accepted = record {
    first = says_same s area g B.file B.channel s₂ xs₂ did_y x x_there;
    second = says_same s area g A.file A.channel s₁ xs₁ did_x y y_there;
    state = states_same;
    area = areas_same;
  }

-- ---- one of them refused

-- what follows a refused call is as if it had not been made
after_refused : (s : State) (area : List ℕ) (x y : Call) → (answer_of s area x).refusal ≢ 0 → afterwards s area x y ≡ answer_of s area y
after_refused s area x y h = ap (λ (a : Answer). answer_of a.state a.area y) (call_alone_lem s area x h)

module _ (s : State) (area : List ℕ) (g : Good s) (x y : Call) (rx : Requests x) (ry : Requests y) (apart : (c : ℕ) → On s c x → On s c y → ⊥)
    (zx : (answer_of s area x).refusal ≡ 0) (hy : (answer_of s area y).refusal ≢ 0) where
  abbrev t : State
  t = (answer_of s area x).state

  abbrev zs : List ℕ
  zs = (answer_of s area x).area

  said : says (answer_of t zs y) ≡ says (answer_of s area y)
  said =
      let D = did s area g x rx zx in
      says_same s area g (act_of s area x).file (act_of s area x).channel t zs D y
      (elsewhere s area g (act_of s area x).file (act_of s area x).channel t zs D y ry (λ o. apart (act_of s area x).channel (on_channel_lem s area g x rx zx) o))

  still : answer_of t zs y ≡ number_alone (answer_of t zs y).refusal t zs y
  still = call_alone_lem t zs y (λ e. hy (sym (ap (λ (a : Says). a.refusal) said) ∙ e))

  second_refused : EitherOrder s area x y
  second_refused = record {
    first = ap says (after_refused s area y x hy);
    second = said;
    state = ap (λ (a : Answer). a.state) still ∙ sym (ap (λ (a : Answer). a.state) (after_refused s area y x hy));
    area = ap (λ (a : Answer). a.area) still ∙ sym (ap (λ (a : Answer). a.area) (after_refused s area y x hy));
  }

turned : (s : State) (area : List ℕ) (x y : Call) → EitherOrder s area y x → EitherOrder s area x y
turned s area x y E = record { first = E.second; second = E.first; state = sym E.state; area = sym E.area }

-- an accepted one was given a sound state
was_sound : (s : State) (area : List ℕ) (x : Call) → Requests x → length s.files ≡ file_count → (answer_of s area x).refusal ≡ 0 → sound s ≡ true
unfolding answer_of ask_refusal report_refusal
was_sound s area _ (asking {file} {op} {priority} {naming}) n z = ask_was_sound s file op priority naming (sym (ask_exactly s file op priority naming).number ∙ z)
was_sound s area _ (reporting {channel} {unit} {outcome} {len} {words}) n z =
    report_was_sound s area channel unit outcome len words n (sym (report_exactly s area channel unit outcome len words).number ∙ z)

pub either_order : (s : State) (area : List ℕ) (x y : Call) → length s.files ≡ file_count → Requests x → Requests y
    → ((c : ℕ) → On s c x → On s c y → ⊥) → (AnswersNaming s area x → AnswersNaming s area y → ⊥) → EitherOrder s area x y
either_order s area x y n rx ry apart single = go (ℕ_discrete (answer_of s area x).refusal 0) (ℕ_discrete (answer_of s area y).refusal 0)
  where
    good : (z : Call) → Requests z → (answer_of s area z).refusal ≡ 0 → Good s
    good z r e = record { right = was_sound s area z r n e; sixteen = n }

    go : Dec ((answer_of s area x).refusal ≡ 0) → Dec ((answer_of s area y).refusal ≡ 0) → EitherOrder s area x y
    go (yes p) (yes q) = both_accepted s area (good x rx p) x y rx ry apart single p q
    go (yes p) (no q) = second_refused s area (good x rx p) x y rx ry apart p q
    go (no p) (yes q) = turned s area x y (second_refused s area (good y ry q) y x ry rx (λ c a b. apart c b a) q p)
    go (no p) (no q) = record {
      first = ap says (after_refused s area y x q);
      second = ap says (after_refused s area x y p);
      state =
          ap (λ (a : Answer). a.state) (after_refused s area x y p ∙ call_alone_lem s area y q)
          ∙ sym (ap (λ (a : Answer). a.state) (after_refused s area y x q ∙ call_alone_lem s area x p));
      area =
          ap (λ (a : Answer). a.area) (after_refused s area x y p ∙ call_alone_lem s area y q)
          ∙ sym (ap (λ (a : Answer). a.area) (after_refused s area y x q ∙ call_alone_lem s area x p));
    }
