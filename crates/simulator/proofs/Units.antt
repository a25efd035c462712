-- Every channel keeps its units: whatever a line does to a state, each of its channels has as many as before. Assumes nothing.
use mathlib.Core.Path.{◌≡◌, refl, sym, ap, ◌∙◌, subst}
use mathlib.Core.Bool.{Bool, true, false, not, cond}
use mathlib.Core.List.{List, [], ◌∷◌, map}
use Prim.Native.Nat.{ℕ, zero, suc, ◌<◌}
use lib.Dec.{eqb}
use lib.ListN.{length, get_or, set, length-set}
use Rattle.area.proofs.Walks.{by_test}
use Rattle.channel.specs.declared.Op.{Op}
use Rattle.channel.specs.declared.Turn.{Turn}
use Rattle.channel.specs.declared.Turn.TheVariants.{Waiting}
use Rattle.channel.specs.declared.Position.{Position}
use Rattle.channel.specs.declared.Channel.{Channel}
use Rattle.channel.specs.Units.{unit_count, size, accepts_at, with_unit, with_marks, with_turn, fresh_of, fresh_with, bits_from}
use Rattle.channel_outcomes.specs.declared.Verdict.{Verdict}
use Rattle.channel_outcomes.specs.declared.Verdict.TheVariants.{Refused, Repeats, Ends}
use Rattle.channel_turns.specs.declared.Asked.{Asked}
use Rattle.channel_turns.specs.Starts.{new_request, start_of, thaw_of, ask_of}
use Rattle.channel_turns.specs.Turns.{judge_of, repeat_of, end_of, book_of}
use Rattle.file.specs.declared.File.{File}
use Rattle.routines.specs.declared.Naming.{Naming}
use Rattle.routines.specs.declared.Post.{Post}
use Rattle.routines.specs.declared.Routines.{Routines}
use Rattle.state.specs.declared.State.{State}
use Rattle.state.specs.Places.{channel_count, no_channel, channel_at}
use Rattle.state.specs.Stores.{with_file, with_channel, with_routines}
use Rattle.state_sound.proofs.ChannelCalls.{start_mark}
use Rattle.pack_start.specs.Fresh.{fresh_state}
use Rattle.pack_start.specs.Freeze.{frozen_state, thawed_state}
use Rattle.call_request.specs.declared.AskChange.{AskChange}
use Rattle.call_request.specs.declared.ReportChange.{ReportChange}
use Rattle.call_request.specs.Ask.{op_of, is_priority, ask_refusal, asked_channel, ask_on}
use Rattle.call_request.specs.Report.{report_refusal, report_on}
use Rattle.session_frame.specs.declared.Frame.{Frame}
use Rattle.session_frame.specs.declared.Frame.TheVariants.{Malformed, Fresh, Open, Close, Ask, Report, Get, Put, Seal, Skip, Freeze, Thaw, Return, Running}
use Rattle.session_frame.specs.Frames.{frame_of}
use Rattle.session_reply.specs.Changes.{ask_change_on, report_change_on}
use Rattle.session_reply.specs.Places.{group_of}
use Rattle.session_reply.specs.Replies.{Reply, given_words, answer_to}
use Rattle.session_reply.specs.Turns.{whole_state, whole_refusal, request_of, record_turn, binding_turn, request_turn, whole_turn, routine_turn, Turned, turned_on, reply_on}
use Rattle.session_reply.proofs.Agrees.{turned_right}
use Rattle.state_sound.specs.Soundness.{sound}
use Rattle.codec.specs.Codecs.{All}

-- ---- one channel

with_size : (c : Channel) (u : ℕ) (t : Turn) (p : Position) → size (with_unit c u t p) ≡ size c
unfolding with_unit
with_size c u t p = length-set c.units u _

start_size : (c : Channel) (frozen : Bool) → size (start_of c frozen) ≡ size c
start_size c frozen = (start_mark true c frozen).1

thaw_size : (c : Channel) → size (thaw_of c) ≡ size c
unfolding thaw_of
thaw_size c = start_size c false

ask_size : (c : Channel) (u : ℕ) (op : Op) (priority frozen : Bool) → size (ask_of c u op priority frozen).channel ≡ size c
unfolding ask_of
ask_size c u op priority frozen =
    by_test (λ (b : Bool). size (cond {A = Asked} b (record { accepted = true; channel = start_of (with_turn c u (Waiting (new_request op priority))) frozen }) (record { accepted = false; channel = c })).channel ≡ size c)
    (accepts_at c u) (λ e. start_size _ frozen ∙ with_size c u _ _) (λ e. refl)

book_size : (c : Channel) (u : ℕ) (v : Verdict) (frozen : Bool) → size (book_of c u v frozen) ≡ size c
unfolding book_of repeat_of end_of
book_size c u (Refused n) frozen = refl
book_size c u (Repeats q) frozen = start_size _ frozen ∙ with_size c u _ _
book_size c u (Ends e) frozen = start_size _ frozen ∙ with_size c u _ _

pub fresh_size : (mask : ℕ) → size (fresh_of mask) ≡ unit_count
unfolding fresh_of fresh_with bits_from
fresh_size mask = refl

-- ---- what a call leaves of its channel

ask_either : (b : Bool) (x y : AskChange) (n : ℕ) → size x.channel ≡ n → size y.channel ≡ n → size (cond b x y).channel ≡ n
ask_either true x y n p q = p
ask_either false x y n p q = q

report_either : (b : Bool) (x y : ReportChange) (n : ℕ) → size x.channel ≡ n → size y.channel ≡ n → size (cond b x y).channel ≡ n
report_either true x y n p q = p
report_either false x y n p q = q

module _ (f : File) (c : Channel) where
  -- a call that is accepted, or refused
  asked_size : (wrong : Bool) (op priority : ℕ) (naming : Naming) (waits frozen : Bool) → size (ask_on wrong f c op priority naming waits frozen).channel ≡ size c
  unfolding ask_on asked_channel
  asked_size wrong op priority naming waits frozen =
      ask_either (eqb (ask_refusal wrong f c op priority naming waits) 0) _ _ (size c) (ask_size c f.unit (op_of op) (is_priority priority) frozen) refl

  reported_size : (wrong : Bool) (u outcome len w : ℕ) (frozen : Bool) (area words : List ℕ) → size (report_on wrong f c u outcome len w frozen area words).channel ≡ size c
  unfolding report_on
  reported_size wrong u outcome len w frozen area words =
      report_either (eqb (report_refusal wrong f c u outcome len w area words) 0) _ _ (size c) (book_size c u (judge_of c u outcome len) frozen) refl

  request_size : (unsound : Bool) (m w : ℕ) (frozen : Bool) (frame : Frame) (p : Post) (area words : List ℕ) → size (request_of unsound m w frozen frame f c p area words).channel ≡ size c
  unfolding request_of ask_change_on report_change_on
  request_size unsound m w frozen (Ask q) p area words = asked_size _ q.op q.priority q.naming _ frozen
  request_size unsound m w frozen (Report q) p area words = reported_size _ q.unit q.outcome q.length w frozen area words
  request_size unsound m w frozen Malformed p area words = refl
  request_size unsound m w frozen (Fresh q) p area words = refl
  request_size unsound m w frozen (Open q) p area words = refl
  request_size unsound m w frozen (Close file) p area words = refl
  request_size unsound m w frozen (Get file) p area words = refl
  request_size unsound m w frozen (Put q) p area words = refl
  request_size unsound m w frozen (Seal file) p area words = refl
  request_size unsound m w frozen (Skip file) p area words = refl
  request_size unsound m w frozen Freeze p area words = refl
  request_size unsound m w frozen Thaw p area words = refl
  request_size unsound m w frozen Return p area words = refl
  request_size unsound m w frozen Running p area words = refl

-- ---- a state

-- every channel has all its units
abbrev pub HasUnits : Channel → Type 0
HasUnits c = size c ≡ unit_count

abbrev pub Full : State → Type 0
Full s = All HasUnits s.channels

all_at : (xs : List Channel) (i : ℕ) → All HasUnits xs → HasUnits (get_or xs i no_channel)
unfolding All
all_at [] i g = fresh_size 0
all_at (x ∷ xs) zero g = g.0
all_at (x ∷ xs) (suc i) g = all_at xs i g.1

all_set : (xs : List Channel) (i : ℕ) (c : Channel) → HasUnits c → All HasUnits xs → All HasUnits (set xs i c)
unfolding All
all_set [] i c h g = g
all_set (x ∷ xs) zero c h g = (h, g.1)
all_set (x ∷ xs) (suc i) c h g = (g.0, all_set xs i c h g.1)

all_thawed : (xs : List Channel) → All HasUnits xs → All HasUnits (map thaw_of xs)
unfolding All
all_thawed [] g = g
all_thawed (x ∷ xs) g = (thaw_size x ∙ g.0, all_thawed xs g.1)

file_full : (s : State) (i : ℕ) (f : File) → Full s → Full (with_file s i f)
unfolding with_file
file_full s i f g = g

routines_full : (s : State) (r : Routines) → Full s → Full (with_routines s r)
unfolding with_routines
routines_full s r g = g

channel_full : (s : State) (j : ℕ) (c : Channel) → HasUnits c → Full s → Full (with_channel s j c)
unfolding with_channel
channel_full s j c h g = all_set s.channels j c h g

whole_full : (s : State) (frame : Frame) → Full s → Full (whole_state s frame)
unfolding whole_state fresh_state frozen_state thawed_state All
whole_full s (Fresh q) g = (fresh_size _, (fresh_size _, (fresh_size _, (fresh_size _, (fresh_size _, tt)))))
whole_full s Freeze g = g
whole_full s Thaw g = all_thawed s.channels g
whole_full s Malformed g = g
whole_full s (Open q) g = g
whole_full s (Close file) g = g
whole_full s (Ask q) g = g
whole_full s (Report q) g = g
whole_full s (Get file) g = g
whole_full s (Put q) g = g
whole_full s (Seal file) g = g
whole_full s (Skip file) g = g
whole_full s Return g = g
whole_full s Running g = g

either_full : (b : Bool) (x y : State) → Full x → Full y → Full (cond b x y)
either_full true x y p q = p
either_full false x y p q = q

full_turned : (b : Bool) (x y : Turned) → Full x.state → Full y.state → Full (cond b x y).state
full_turned true x y p q = p
full_turned false x y p q = q

turned_full : (unsound : Bool) (s : State) (area words : List ℕ) (frame : Frame) → Full s → Full (turned_on unsound s area frame words).state
unfolding turned_on request_turn whole_turn routine_turn binding_turn record_turn
turned_full unsound s area words frame g =
    full_turned (eqb (group_of frame) 1) _ _
    (routines_full _ _ (file_full _ _ _ (channel_full s _ _ (request_size _ _ unsound s.m s.w s.frozen frame _ area words ∙ all_at s.channels _ g) g)))
    (full_turned (eqb (group_of frame) 3) _ _ (either_full (eqb (whole_refusal unsound (length area) frame) 0) (whole_state s frame) s (whole_full s frame g) g)
    (full_turned (eqb (group_of frame) 4) _ _ (routines_full s _ g)
    (full_turned (eqb (group_of frame) 2) _ _ (file_full s _ _ g) (file_full s _ _ g))))

on_full : (unsound : Bool) (s : State) (area words : List ℕ) (frame : Frame) → Full s → Full (reply_on unsound s area words frame).state
unfolding reply_on
on_full unsound s area words frame g = turned_full unsound s area words frame g

-- whatever the line is
pub answer_full : (s : State) (area line : List ℕ) → Full s → Full (answer_to s area line).state
unfolding answer_to
answer_full s area line g =
    subst (λ (r : Reply). Full r.state) (turned_right s area (given_words (frame_of line) line) (frame_of line))
    (on_full (not (sound s)) s area (given_words (frame_of line) line) (frame_of line) g)
