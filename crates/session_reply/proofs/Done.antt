-- What each call's code makes of its inner form comes to its definition. Assumes nothing.
use mathlib.Core.Path.{◌≡◌, sym, ap, ap₂, ◌∙◌}
use mathlib.Core.Bool.{Bool, true, false, ◌||◌, ◌&&◌}
use mathlib.Core.List.{List}
use Prim.Native.Nat.{ℕ, ◌*◌}
use lib.Dec.{leb, ltb}
use lib.ListN.{length}
use Rattle.area.proofs.Marks.{cond_true}
use Rattle.area.proofs.Walks.{and_left, and_right}
use Rattle.session_frame.specs.declared.Answer.{Answer}
use Rattle.session_frame.specs.declared.Answer.TheVariants as answer
use Rattle.channel.specs.declared.Channel.{Channel}
use Rattle.file.specs.declared.File.{File}
use Rattle.file.specs.declared.Wish.{Wish}
use Rattle.file_input.specs.Gets.{got_start, got_words}
use Rattle.pool.specs.Free.{file_count}
use Rattle.pool.specs.Masks.{free_in}
use Rattle.pool.specs.Serving.{is_bound}
use Rattle.routines.specs.declared.Post.{Post}
use Rattle.routines.specs.declared.Routines.{Routines}
use Rattle.routines.specs.Ranks.{is_due}
use Rattle.routines.specs.Posts.{post_at, with_post}
use Rattle.pack_routine.specs.declared.RoutineChange.{RoutineChange}
use Rattle.pack_routine.specs.Ons.{return_on, running_on}
use Rattle.state.specs.Places.{channel_count}
use Rattle.file.specs.declared.FileChange.{FileChange}
use Rattle.pool.specs.declared.FreeBuffers.{FreeBuffers}
use Rattle.call_open.specs.Open.{wish_of, open_on}
use Rattle.call_request.specs.declared.AskChange.{AskChange}
use Rattle.call_request.specs.declared.ReportChange.{ReportChange}
use Rattle.call_request.specs.Ask.{ask_on}
use Rattle.call_request.specs.Report.{report_on, report_on_area}
use Rattle.call_record.specs.declared.GetChange.{GetChange}
use Rattle.call_record.specs.Get.{get_on}
use Rattle.call_record.specs.Put.{put_on, put_on_area}
use Rattle.call_record.specs.Seal.{seal_on, seal_on_area}
use Rattle.session_frame.specs.declared.OpenFrame.{OpenFrame}
use Rattle.session_frame.specs.declared.AskFrame.{AskFrame}
use Rattle.session_frame.specs.declared.ReportFrame.{ReportFrame}
use Rattle.session_frame.specs.declared.Frame.{Frame}
use Rattle.session_reply.specs.declared.Told.{Told}
use Rattle.session_reply.specs.declared.Change.{Change}
use Rattle.session_reply.specs.Replies.{answer_or, got_answer, report_answer}
use Rattle.session_reply.specs.Changes.{quiet_told, open_wrong, open_told, asked_post, ask_change_on, is_named_answer, reported_post, report_change_on, report_area_on, get_told, put_told, put_area_on, seal_told, seal_area_on, return_told, running_told}
use Rattle.session_reply.specs.Places.{channel_number, unit_number, file_or, file_kept, channel_or, channel_kept, channel_for, unit_for}
use Rattle.session_reply.specs.Turns.{record_of, record_area, binding_of, request_of, request_area, told_at, record_at, binding_at, change_at, request_at}

pub opened_as : (unsound : Bool) (w mask : ℕ) (files : List File) (f : File) (c : Channel) (q : OpenFrame)
    (bound : Bool) (free : FreeBuffers) (wish : Wish) (x : FileChange) (r : Told)
    → bound ≡ is_bound files q.channel q.unit → free ≡ free_in mask → wish ≡ wish_of q.channel q.unit q.flags q.size q.rlen
    → x ≡ open_on (open_wrong unsound q.file q.channel q.unit q.flags) bound f c free w wish → r ≡ quiet_told x.refusal x.file
    → r ≡ open_told unsound w mask files f c q
unfolding open_told
opened_as unsound w mask files f c q bound free wish x r eb ef eq ex er =
    let e : x ≡ open_on (open_wrong unsound q.file q.channel q.unit q.flags) (is_bound files q.channel q.unit) f c (free_in mask) w
    (wish_of q.channel q.unit q.flags q.size q.rlen) =
    ex ∙ rw (eb, ef, eq) in
    er ∙ ap (λ (y : FileChange). quiet_told y.refusal y.file) e

pub asked_as : (unsound frozen : Bool) (f : File) (c : Channel) (p : Post) (q : AskFrame) (waits : Bool) (x : AskChange) (a : Answer) (post : Post)
    → waits ≡ is_due p.due → x ≡ ask_on (unsound || leb file_count q.file) f c q.op q.priority q.naming waits frozen
    → a ≡ answer_or x.refusal (answer.Asked x.working) → post ≡ asked_post x.refusal p q.naming
    → record { answer = a; start = 0; count = 0; file = x.file; channel = x.channel; post = post; looks = false } ≡ ask_change_on unsound frozen f c p q
unfolding ask_change_on
asked_as unsound frozen f c p q waits x a post ew ex ea ep =
    ap₂ (λ (b : Answer) (z : Post). record { answer = b; start = 0; count = 0; file = x.file; channel = x.channel; post = z; looks = false }) ea ep
    ∙ ap (λ (y : AskChange). record {
      answer = answer_or y.refusal (answer.Asked y.working);
      start = 0;
      count = 0;
      file = y.file;
      channel = y.channel;
      post = asked_post y.refusal p q.naming;
      looks = false;
    }) (ex ∙ ap (λ (t : Bool). ask_on (unsound || leb file_count q.file) f c q.op q.priority q.naming t frozen) ew)

module _ (unsound : Bool) (m w : ℕ) (frozen : Bool) (f : File) (c : Channel) (p : Post) (q : ReportFrame) (area words : List ℕ) where
  pub reported_as : (short : Bool) (x : ReportChange) (a : Answer) (post : Post) (looks : Bool) → short ≡ ltb (length area) (m * w)
      → x ≡ report_on (unsound || (short || leb channel_count q.channel)) f c q.unit q.outcome q.length w frozen area words
      → a ≡ answer_or x.refusal (report_answer x.result x.delivery x.working) → post ≡ reported_post x.result p → looks ≡ is_named_answer x.result p
      → record { answer = a; start = x.start; count = x.count; file = x.file; channel = x.channel; post = post; looks = looks }
      ≡ report_change_on unsound m w frozen f c p q area words
  unfolding report_change_on
  reported_as short x a post looks es ex ea ep el =
      ap₂ (λ (b : Answer) (z : Post). record { answer = b; start = x.start; count = x.count; file = x.file; channel = x.channel; post = z; looks = looks }) ea ep
      ∙ ap (λ (t : Bool). record {
        answer = answer_or x.refusal (report_answer x.result x.delivery x.working);
        start = x.start;
        count = x.count;
        file = x.file;
        channel = x.channel;
        post = reported_post x.result p;
        looks = t;
      }) el
      ∙ ap (λ (y : ReportChange). record {
        answer = answer_or y.refusal (report_answer y.result y.delivery y.working);
        start = y.start;
        count = y.count;
        file = y.file;
        channel = y.channel;
        post = reported_post y.result p;
        looks = is_named_answer y.result p;
      }) (ex ∙ ap (λ (t : Bool). report_on (unsound || (t || leb channel_count q.channel)) f c q.unit q.outcome q.length w frozen area words) es)

-- ---- the routines

pub given_back_as : (unsound frozen : Bool) (r : Routines) (x : RoutineChange) (a : Answer) → x ≡ return_on unsound frozen r
    → a ≡ answer_or x.refusal (answer.Returned x.entered x.program) → record { answer = a; routines = x.routines } ≡ return_told unsound frozen r
unfolding return_told
given_back_as unsound frozen r x a ex ea =
    ap (λ (b : Answer). record { answer = b; routines = x.routines }) ea
    ∙ ap (λ (y : RoutineChange). record { answer = answer_or y.refusal (answer.Returned y.entered y.program); routines = y.routines }) ex

pub running_as : (unsound : Bool) (r : Routines) (x : RoutineChange) (a : Answer) → x ≡ running_on unsound r → a ≡ answer_or x.refusal (answer.Runs x.program)
    → record { answer = a; routines = x.routines } ≡ running_told unsound r
unfolding running_told
running_as unsound r x a ex ea =
    ap (λ (b : Answer). record { answer = b; routines = x.routines }) ea
    ∙ ap (λ (y : RoutineChange). record { answer = answer_or y.refusal (answer.Runs y.program); routines = y.routines }) ex

pub reported_area_lem : (unsound : Bool) (m w : ℕ) (f : File) (c : Channel) (q : ReportFrame) (area words : List ℕ) (short : Bool) (after : List ℕ)
    → short ≡ ltb (length area) (m * w) → after ≡ report_on_area (unsound || (short || leb channel_count q.channel)) f c q.unit q.outcome q.length w area words
    → after ≡ report_area_on unsound m w f c q area words
unfolding report_area_on
reported_area_lem unsound m w f c q area words short after es e =
    e ∙ ap (λ (t : Bool). report_on_area (unsound || (t || leb channel_count q.channel)) f c q.unit q.outcome q.length w area words) es

module _ (unsound : Bool) (m w : ℕ) (f : File) (file : ℕ) (area : List ℕ) where
  pub got_as : (short : Bool) (x : GetChange) (told a : Answer) (start count : ℕ) → short ≡ ltb (length area) (m * w)
      → x ≡ get_on (leb file_count file || (short || unsound)) f w area → told ≡ got_answer x.got → a ≡ answer_or x.refusal told
      → start ≡ got_start x.got → count ≡ got_words x.got
      → record { answer = a; start = start; count = count; file = x.file } ≡ get_told unsound m w f file area
  unfolding get_told
  got_as short x told a start count es ex et ea e1 e2 =
      rw (ea, et, e1, e2)
      (ap (λ (y : GetChange). record { answer = answer_or y.refusal (got_answer y.got); start = got_start y.got; count = got_words y.got; file = y.file })
      (ex ∙ ap (λ (t : Bool). get_on (leb file_count file || (t || unsound)) f w area) es))

module _ (unsound : Bool) (m w : ℕ) (f : File) (file : ℕ) (area words : List ℕ) where
  pub filled_as : (short : Bool) (x : FileChange) (r : Told) → short ≡ ltb (length area) (m * w)
      → x ≡ put_on (leb file_count file || (short || unsound)) f w area words → r ≡ quiet_told x.refusal x.file
      → r ≡ put_told unsound m w f file area words
  unfolding put_told
  filled_as short x r es ex er =
      er ∙ ap (λ (y : FileChange). quiet_told y.refusal y.file)
      (ex ∙ ap (λ (t : Bool). put_on (leb file_count file || (t || unsound)) f w area words) es)

pub filled_area_lem : (unsound : Bool) (m w : ℕ) (f : File) (file : ℕ) (area words : List ℕ) (short : Bool) (after : List ℕ)
    → short ≡ ltb (length area) (m * w) → after ≡ put_on_area (leb file_count file || (short || unsound)) f w area words
    → after ≡ put_area_on unsound m w f file area words
unfolding put_area_on
filled_area_lem unsound m w f file area words short after es e =
    e ∙ ap (λ (t : Bool). put_on_area (leb file_count file || (t || unsound)) f w area words) es

module _ (unsound : Bool) (m w : ℕ) (f : File) (file : ℕ) (area : List ℕ) where
  pub sealed_as : (short : Bool) (x : FileChange) (r : Told) → short ≡ ltb (length area) (m * w)
      → x ≡ seal_on (leb file_count file || (short || unsound)) f w area → r ≡ quiet_told x.refusal x.file
      → r ≡ seal_told unsound m w f file area
  unfolding seal_told
  sealed_as short x r es ex er =
      er ∙ ap (λ (y : FileChange). quiet_told y.refusal y.file)
      (ex ∙ ap (λ (t : Bool). seal_on (leb file_count file || (t || unsound)) f w area) es)

pub sealed_area_lem : (unsound : Bool) (m w : ℕ) (f : File) (file : ℕ) (area : List ℕ) (short : Bool) (after : List ℕ)
    → short ≡ ltb (length area) (m * w) → after ≡ seal_on_area (leb file_count file || (short || unsound)) f w area
    → after ≡ seal_area_on unsound m w f file area
unfolding seal_area_on
sealed_area_lem unsound m w f file area short after es e =
    e ∙ ap (λ (t : Bool). seal_on_area (leb file_count file || (t || unsound)) f w area) es

-- ---- a call where its file and its channel stand

module _ (frame : Frame) (i : ℕ) (old f : File) (ef : f ≡ file_or i old) where
  channel_for_lem : (j : ℕ) → j ≡ channel_number frame f.channel → j ≡ channel_for frame i old
  unfolding channel_for
  channel_for_lem j e = e ∙ ap (λ (g : File). channel_number frame g.channel) ef

  unit_for_lem : (u : ℕ) → u ≡ unit_number frame f.unit → u ≡ unit_for frame i old
  unfolding unit_for
  unit_for_lem u e = e ∙ ap (λ (g : File). unit_number frame g.unit) ef

  -- the post of its unit, and another one there
  module _ (r : Routines) (j u : ℕ) (ej : j ≡ channel_number frame f.channel) (eu : u ≡ unit_number frame f.unit) where
    pub post_as : (p : Post) → p ≡ post_at r j u → p ≡ post_at r (channel_for frame i old) (unit_for frame i old)
    post_as p e = e ∙ ap₂ (λ (k v : ℕ). post_at r k v) (channel_for_lem j ej) (unit_for_lem u eu)

    pub with_post_as : (t : Routines) (p : Post) → t ≡ with_post r j u p → t ≡ with_post r (channel_for frame i old) (unit_for frame i old) p
    with_post_as t p e = e ∙ ap₂ (λ (k v : ℕ). with_post r k v p) (channel_for_lem j ej) (unit_for_lem u eu)

  told_kept : (x y : Told) (file : File) → x ≡ y → file ≡ file_kept i x.file old
      → ◌≡◌ {A = Told} (record { answer = x.answer; start = x.start; count = x.count; file = file }) (told_at i old y)
  unfolding told_at
  told_kept x y file e e₂ = ap (λ (g : File). record { answer = x.answer; start = x.start; count = x.count; file = g }) e₂ ∙ ap (told_at i old) e

  module _ (unsound : Bool) (m w : ℕ) (area words : List ℕ) where
    pub record_as : (x : Told) (file : File) → x ≡ record_of unsound m w frame f area words → file ≡ file_kept i x.file old
        → ◌≡◌ {A = Told} (record { answer = x.answer; start = x.start; count = x.count; file = file }) (record_at unsound m w frame i old area words)
    unfolding record_at
    record_as x file ex e = told_kept x _ file (ex ∙ ap (λ (g : File). record_of unsound m w frame g area words) ef) e

    pub record_area_lem : (after : List ℕ) → after ≡ record_area unsound m w frame f area words → after ≡ record_area unsound m w frame (file_or i old) area words
    record_area_lem after e = e ∙ ap (λ (g : File). record_area unsound m w frame g area words) ef

  module _ (j : ℕ) (was c : Channel) (ej : j ≡ channel_number frame f.channel) (ec : c ≡ channel_or j was) where
    channel_there : c ≡ channel_or (channel_for frame i old) was
    channel_there = ec ∙ ap (λ (n : ℕ). channel_or n was) (channel_for_lem j ej)

    pub binding_as : (unsound : Bool) (w free : ℕ) (files : List File) (x : Told) (file : File) → x ≡ binding_of unsound w free files frame f c → file ≡ file_kept i x.file old
        → ◌≡◌ {A = Told} (record { answer = x.answer; start = x.start; count = x.count; file = file }) (binding_at unsound w free files frame i old was)
    unfolding binding_at
    binding_as unsound w free files x file ex e =
        told_kept x _ file (ex ∙ ap₂ (λ (g : File) (d : Channel). binding_of unsound w free files frame g d) ef channel_there) e

    module _ (unsound : Bool) (m w : ℕ) (frozen : Bool) (p : Post) (area words : List ℕ) where
      pub request_as : (x : Change) (file : File) (channel : Channel) → x ≡ request_of unsound m w frozen frame f c p area words → file ≡ file_kept i x.file old
          → channel ≡ channel_kept j x.channel was
          → ◌≡◌ {A = Change} (record { answer = x.answer; start = x.start; count = x.count; file = file; channel = channel; post = x.post; looks = x.looks })
          (request_at unsound m w frozen frame i old was p area words)
      unfolding request_at change_at
      request_as x file channel ex e e₂ =
          ap₂ (λ (g : File) (d : Channel). record { answer = x.answer; start = x.start; count = x.count; file = g; channel = d; post = x.post; looks = x.looks }) e
          (e₂ ∙ ap (λ (n : ℕ). channel_kept n x.channel was) (channel_for_lem j ej))
          ∙ ap (change_at i old (channel_for frame i old) was) (ex ∙ ap₂ (λ (g : File) (d : Channel). request_of unsound m w frozen frame g d p area words) ef channel_there)

      pub request_area_lem : (after : List ℕ) → after ≡ request_area unsound m w frame f c area words
          → after ≡ request_area unsound m w frame (file_or i old) (channel_or (channel_for frame i old) was) area words
      request_area_lem after e = e ∙ ap₂ (λ (g : File) (d : Channel). request_area unsound m w frame g d area words) ef channel_there

-- ---- the same of numbers that are in range: nothing has to be chosen

module _ (i : ℕ) (old : File) (there : ltb i file_count ≡ true) where
  file_there : file_or i old ≡ old
  unfolding file_or
  file_there = cond_true _ _ there

  told_there : (x : Told) → told_at i old x ≡ x
  unfolding told_at file_kept
  told_there x = ap (λ (g : File). record { answer = x.answer; start = x.start; count = x.count; file = g }) (cond_true _ _ there)

  module _ (unsound : Bool) (m w : ℕ) (frame : Frame) (area words : List ℕ) where
    pub record_within : (x : Told) → x ≡ record_of unsound m w frame old area words → x ≡ record_at unsound m w frame i old area words
    unfolding record_at
    record_within x e = e ∙ sym (told_there _) ∙ ap (λ (f : File). told_at i old (record_of unsound m w frame f area words)) (sym file_there)

    pub record_area_within : (after : List ℕ) → after ≡ record_area unsound m w frame old area words → after ≡ record_area unsound m w frame (file_or i old) area words
    record_area_within after e = e ∙ ap (λ (f : File). record_area unsound m w frame f area words) (sym file_there)

module _ (frame : Frame) (i : ℕ) (old f : File) (ef : f ≡ file_or i old) (j : ℕ) (was : Channel) (ej : j ≡ channel_number frame f.channel)
    (both : (ltb i file_count && ltb j channel_count) ≡ true) where
  first : ltb i file_count ≡ true
  first = and_left (ltb i file_count) (ltb j channel_count) both

  number : j ≡ channel_for frame i old
  number = channel_for_lem frame i old f ef j ej

  second : ltb (channel_for frame i old) channel_count ≡ true
  second = ap (λ (n : ℕ). ltb n channel_count) (sym number) ∙ and_right (ltb i file_count) (ltb j channel_count) both

  channel_within : channel_or (channel_for frame i old) was ≡ was
  unfolding channel_or
  channel_within = cond_true _ _ second

  pub binding_within : (unsound : Bool) (w free : ℕ) (files : List File) (x : Told) → x ≡ binding_of unsound w free files frame old was
      → x ≡ binding_at unsound w free files frame i old was
  unfolding binding_at
  binding_within unsound w free files x e =
      e ∙ sym (told_there i old first _)
      ∙ ap₂ (λ (g : File) (c : Channel). told_at i old (binding_of unsound w free files frame g c)) (sym (file_there i old first)) (sym channel_within)

  module _ (unsound : Bool) (m w : ℕ) (frozen : Bool) (p : Post) (area words : List ℕ) where
    change_there : (x : Change) → change_at i old (channel_for frame i old) was x ≡ x
    unfolding change_at file_kept channel_kept
    change_there x =
        ap₂ (λ (g : File) (c : Channel). record { answer = x.answer; start = x.start; count = x.count; file = g; channel = c; post = x.post; looks = x.looks }) (cond_true _ _ first) (cond_true _ _ second)

    pub request_within : (x : Change) → x ≡ request_of unsound m w frozen frame old was p area words → x ≡ request_at unsound m w frozen frame i old was p area words
    unfolding request_at
    request_within x e =
        e ∙ sym (change_there _)
        ∙ ap₂ (λ (g : File) (c : Channel). change_at i old (channel_for frame i old) was (request_of unsound m w frozen frame g c p area words)) (sym (file_there i old first)) (sym channel_within)

    pub request_area_within : (after : List ℕ) → after ≡ request_area unsound m w frame old was area words
        → after ≡ request_area unsound m w frame (file_or i old) (channel_or (channel_for frame i old) was) area words
    request_area_within after e = e ∙ ap₂ (λ (g : File) (c : Channel). request_area unsound m w frame g c area words) (sym (file_there i old first)) (sym channel_within)
