-- A frame against a state and an area as the code goes, by its group: on one file, on a file, a channel and a post, on the routines, or on the whole state.
-- Law `turned_right` says that this is `reply_to` where `unsound` is the judgement of the state. Assumes nothing.
use Rattle.std.specs.Prelude.{ℕ, Bool, false, not, cond, ◌&&◌, List, eqb, length}
use Rattle.area.specs.Parts.{part_of}
use Rattle.session_frame.specs.declared.Answer.{Answer}
use Rattle.session_frame.specs.declared.Answer.TheVariants as answer
use Rattle.session_frame.specs.declared.Frame.{Frame}
use Rattle.session_frame.specs.declared.Frame.TheVariants.{Malformed, Fresh, Open, Close, Ask, Report, Get, Put, Seal, Skip, Freeze, Thaw, Return, Running}
use Rattle.session_frame.specs.Frames.{frame_of}
use Rattle.channel.specs.declared.Channel.{Channel}
use Rattle.file.specs.declared.File.{File}
use Rattle.routines.specs.declared.Post.{Post}
use Rattle.routines.specs.declared.Routines.{Routines}
use Rattle.routines.specs.Posts.{post_at, with_post}
use Rattle.routines.specs.Changes.{looked_in}
use Rattle.state.specs.declared.State.{State}
use Rattle.state.specs.Places.{file_at, channel_at}
use Rattle.state.specs.Stores.{with_file, with_channel, with_routines}
use Rattle.pack_start.specs.Fresh.{fresh_refusal, fresh_state}
use Rattle.pack_start.specs.Freeze.{frozen_state, thawed_state}
use Rattle.session_reply.specs.declared.Told.{Told}
use Rattle.session_reply.specs.declared.Change.{Change}
use Rattle.session_reply.specs.declared.RoutineTold.{RoutineTold}
use Rattle.session_reply.specs.Replies.{Reply, answer_or, masks_of, given_words}
use Rattle.session_reply.specs.Changes.{quiet_told, open_told, close_told, ask_change_on, skip_told, report_change_on, report_area_on, get_told, put_told, put_area_on, seal_told, seal_area_on, return_told, running_told}
use Rattle.session_reply.specs.Places.{group_of, named_file, file_number, channel_number, unit_number, is_return, file_or, file_kept, channel_or, channel_kept, channel_for}

-- ---- the whole state: fresh start, freeze, thaw

-- the refusal, with an area of n words; a frame that is no such call is refused
unfoldable pub whole_refusal : Bool → ℕ → Frame → ℕ
whole_refusal unsound n (Fresh q) = fresh_refusal unsound q.m q.w (masks_of q.masks) n
whole_refusal unsound n Freeze = cond unsound 1 0
whole_refusal unsound n Thaw = cond unsound 1 0
whole_refusal unsound n Malformed = 1
whole_refusal unsound n (Open q) = 1
whole_refusal unsound n (Close file) = 1
whole_refusal unsound n (Ask q) = 1
whole_refusal unsound n (Report q) = 1
whole_refusal unsound n (Get file) = 1
whole_refusal unsound n (Put q) = 1
whole_refusal unsound n (Seal file) = 1
whole_refusal unsound n (Skip file) = 1
whole_refusal unsound n Return = 1
whole_refusal unsound n Running = 1

-- the state after an accepted one
unfoldable pub whole_state : State → Frame → State
whole_state s (Fresh q) = fresh_state q.m q.w (masks_of q.masks)
whole_state s Freeze = frozen_state s
whole_state s Thaw = thawed_state s
whole_state s Malformed = s
whole_state s (Open q) = s
whole_state s (Close file) = s
whole_state s (Ask q) = s
whole_state s (Report q) = s
whole_state s (Get file) = s
whole_state s (Put q) = s
whole_state s (Seal file) = s
whole_state s (Skip file) = s
whole_state s Return = s
whole_state s Running = s

-- ---- one file: get, put, seal, skip; "1 | .. or a frame is malformed"

unfoldable pub record_of : Bool → ℕ → ℕ → Frame → File → List ℕ → List ℕ → Told
record_of unsound m w (Get file) f area words = get_told unsound m w f file area
record_of unsound m w (Put q) f area words = put_told unsound m w f q.file area words
record_of unsound m w (Seal file) f area words = seal_told unsound m w f file area
record_of unsound m w (Skip file) f area words = skip_told unsound f file
record_of unsound m w Malformed f area words = quiet_told 1 f
record_of unsound m w (Fresh q) f area words = quiet_told 1 f
record_of unsound m w (Open q) f area words = quiet_told 1 f
record_of unsound m w (Close file) f area words = quiet_told 1 f
record_of unsound m w (Ask q) f area words = quiet_told 1 f
record_of unsound m w (Report q) f area words = quiet_told 1 f
record_of unsound m w Freeze f area words = quiet_told 1 f
record_of unsound m w Thaw f area words = quiet_told 1 f
record_of unsound m w Return f area words = quiet_told 1 f
record_of unsound m w Running f area words = quiet_told 1 f

unfoldable pub record_area : Bool → ℕ → ℕ → Frame → File → List ℕ → List ℕ → List ℕ
record_area unsound m w (Put q) f area words = put_area_on unsound m w f q.file area words
record_area unsound m w (Seal file) f area words = seal_area_on unsound m w f file area
record_area unsound m w Malformed f area words = area
record_area unsound m w (Fresh q) f area words = area
record_area unsound m w (Open q) f area words = area
record_area unsound m w (Close file) f area words = area
record_area unsound m w (Ask q) f area words = area
record_area unsound m w (Report q) f area words = area
record_area unsound m w (Get file) f area words = area
record_area unsound m w (Skip file) f area words = area
record_area unsound m w Freeze f area words = area
record_area unsound m w Thaw f area words = area
record_area unsound m w Return f area words = area
record_area unsound m w Running f area words = area

-- ---- open and close

unfoldable pub binding_of : Bool → ℕ → ℕ → List File → Frame → File → Channel → Told
binding_of unsound w free files (Open q) f c = open_told unsound w free files f c q
binding_of unsound w free files (Close file) f c = close_told unsound f c file
binding_of unsound w free files Malformed f c = quiet_told 1 f
binding_of unsound w free files (Fresh q) f c = quiet_told 1 f
binding_of unsound w free files (Ask q) f c = quiet_told 1 f
binding_of unsound w free files (Report q) f c = quiet_told 1 f
binding_of unsound w free files (Get file) f c = quiet_told 1 f
binding_of unsound w free files (Put q) f c = quiet_told 1 f
binding_of unsound w free files (Seal file) f c = quiet_told 1 f
binding_of unsound w free files (Skip file) f c = quiet_told 1 f
binding_of unsound w free files Freeze f c = quiet_told 1 f
binding_of unsound w free files Thaw f c = quiet_told 1 f
binding_of unsound w free files Return f c = quiet_told 1 f
binding_of unsound w free files Running f c = quiet_told 1 f

-- ---- ask and report

abbrev pub unasked_change : File → Channel → Post → Change
unasked_change f c p = record { answer = answer.Refused 1; start = 0; count = 0; file = f; channel = c; post = p; looks = false }

unfoldable pub request_of : Bool → ℕ → ℕ → Bool → Frame → File → Channel → Post → List ℕ → List ℕ → Change
request_of unsound m w frozen (Ask q) f c p area words = ask_change_on unsound frozen f c p q
request_of unsound m w frozen (Report q) f c p area words = report_change_on unsound m w frozen f c p q area words
request_of unsound m w frozen Malformed f c p area words = unasked_change f c p
request_of unsound m w frozen (Fresh q) f c p area words = unasked_change f c p
request_of unsound m w frozen (Open q) f c p area words = unasked_change f c p
request_of unsound m w frozen (Close file) f c p area words = unasked_change f c p
request_of unsound m w frozen (Get file) f c p area words = unasked_change f c p
request_of unsound m w frozen (Put q) f c p area words = unasked_change f c p
request_of unsound m w frozen (Seal file) f c p area words = unasked_change f c p
request_of unsound m w frozen (Skip file) f c p area words = unasked_change f c p
request_of unsound m w frozen Freeze f c p area words = unasked_change f c p
request_of unsound m w frozen Thaw f c p area words = unasked_change f c p
request_of unsound m w frozen Return f c p area words = unasked_change f c p
request_of unsound m w frozen Running f c p area words = unasked_change f c p

unfoldable pub request_area : Bool → ℕ → ℕ → Frame → File → Channel → List ℕ → List ℕ → List ℕ
request_area unsound m w (Report q) f c area words = report_area_on unsound m w f c q area words
request_area unsound m w Malformed f c area words = area
request_area unsound m w (Fresh q) f c area words = area
request_area unsound m w (Open q) f c area words = area
request_area unsound m w (Close file) f c area words = area
request_area unsound m w (Ask q) f c area words = area
request_area unsound m w (Get file) f c area words = area
request_area unsound m w (Put q) f c area words = area
request_area unsound m w (Seal file) f c area words = area
request_area unsound m w (Skip file) f c area words = area
request_area unsound m w Freeze f c area words = area
request_area unsound m w Thaw f c area words = area
request_area unsound m w Return f c area words = area
request_area unsound m w Running f c area words = area

-- ---- the same where `old` and `was` stand at the places of the file i and of the channel: what stands there after it

unfoldable pub told_at : ℕ → File → Told → Told
told_at i old x = record { answer = x.answer; start = x.start; count = x.count; file = file_kept i x.file old }

unfoldable pub record_at : Bool → ℕ → ℕ → Frame → ℕ → File → List ℕ → List ℕ → Told
record_at unsound m w frame i old area words = told_at i old (record_of unsound m w frame (file_or i old) area words)

unfoldable pub binding_at : Bool → ℕ → ℕ → List File → Frame → ℕ → File → Channel → Told
binding_at unsound w free files frame i old was =
    told_at i old (binding_of unsound w free files frame (file_or i old) (channel_or (channel_for frame i old) was))

unfoldable pub change_at : ℕ → File → ℕ → Channel → Change → Change
change_at i old j was x =
    record {
      answer = x.answer;
      start = x.start;
      count = x.count;
      file = file_kept i x.file old;
      channel = channel_kept j x.channel was;
      post = x.post;
      looks = x.looks;
    }

unfoldable pub request_at : Bool → ℕ → ℕ → Bool → Frame → ℕ → File → Channel → Post → List ℕ → List ℕ → Change
request_at unsound m w frozen frame i old was p area words =
    let j = channel_for frame i old in
    change_at i old j was (request_of unsound m w frozen frame (file_or i old) (channel_or j was) p area words)

-- the routines with the post p at a unit, and after a look if there is one; they are as they were where the post is and nothing looks
unfoldable pub posted_in : Routines → Bool → ℕ → ℕ → Post → Bool → Routines
posted_in r frozen c u p looks = cond looks (looked_in (with_post r c u p) frozen) (with_post r c u p)

abbrev pub is_still : Post → Post → Bool → Bool
is_still p q looks =
    (eqb p.named.rank q.named.rank && eqb p.named.routine q.named.routine) && ((eqb p.due.rank q.due.rank && eqb p.due.routine q.due.routine) && not looks)

-- ---- return and what runs

unfoldable pub routine_of : Bool → Bool → Routines → Frame → RoutineTold
routine_of unsound frozen r frame = cond (is_return frame) (return_told unsound frozen r) (running_told unsound r)

-- ---- the state after a frame, its answer, and the part of the area that it shows

pub record Turned : Type 0 where
  pub answer : Answer
  pub start : ℕ
  pub count : ℕ
  pub state : State

abbrev pub turned_is : Answer → ℕ → ℕ → State → Turned
turned_is a start count s = record { answer = a; start = start; count = count; state = s }

unfoldable pub record_turn : Bool → State → List ℕ → Frame → List ℕ → Turned
record_turn unsound s area frame words =
    let i = named_file frame in
    let x = record_of unsound s.m s.w frame (file_at s i) area words in
    turned_is x.answer x.start x.count (with_file s i x.file)

unfoldable pub binding_turn : Bool → State → Frame → Turned
binding_turn unsound s frame =
    let i = named_file frame in
    let f = file_at s i in
    let x = binding_of unsound s.w s.free s.files frame f (channel_at s (channel_number frame f.channel)) in
    turned_is x.answer x.start x.count (with_file s i x.file)

unfoldable pub request_turn : Bool → State → List ℕ → Frame → List ℕ → Turned
request_turn unsound s area frame words =
    let i = file_number frame s.files in
    let f = file_at s i in
    let j = channel_number frame f.channel in
    let u = unit_number frame f.unit in
    let x = request_of unsound s.m s.w s.frozen frame f (channel_at s j) (post_at s.routines j u) area words in
    turned_is x.answer x.start x.count
    (with_routines (with_file (with_channel s j x.channel) i x.file) (posted_in s.routines s.frozen j u x.post x.looks))

unfoldable pub whole_turn : Bool → State → ℕ → Frame → Turned
whole_turn unsound s n frame =
    let no = whole_refusal unsound n frame in turned_is (answer_or no answer.Done) 0 0 (cond (eqb no 0) (whole_state s frame) s)

unfoldable pub routine_turn : Bool → State → Frame → Turned
routine_turn unsound s frame =
    let x = routine_of unsound s.frozen s.routines frame in turned_is x.answer 0 0 (with_routines s x.routines)

unfoldable pub turned_on : Bool → State → List ℕ → Frame → List ℕ → Turned
turned_on unsound s area frame words =
    cond (eqb (group_of frame) 1) (request_turn unsound s area frame words)
    (cond (eqb (group_of frame) 3) (whole_turn unsound s (length area) frame)
    (cond (eqb (group_of frame) 4) (routine_turn unsound s frame)
    (cond (eqb (group_of frame) 2) (binding_turn unsound s frame) (record_turn unsound s area frame words))))

unfoldable pub request_area_on : Bool → State → List ℕ → Frame → List ℕ → List ℕ
request_area_on unsound s area frame words =
    let f = file_at s (file_number frame s.files) in
    request_area unsound s.m s.w frame f (channel_at s (channel_number frame f.channel)) area words

unfoldable pub area_on : Bool → State → List ℕ → Frame → List ℕ → List ℕ
area_on unsound s area frame words =
    cond (eqb (group_of frame) 1) (request_area_on unsound s area frame words)
    (cond (eqb (group_of frame) 3) area
    (cond (eqb (group_of frame) 4) area
    (cond (eqb (group_of frame) 2) area (record_area unsound s.m s.w frame (file_at s (named_file frame)) area words))))

-- the words that are shown are those of the area afterwards
unfoldable pub reply_on : Bool → State → List ℕ → List ℕ → Frame → Reply
reply_on unsound s area words frame =
    let x = turned_on unsound s area frame words in
    let after = area_on unsound s area frame words in
    record { state = x.state; area = after; answer = x.answer; words = part_of x.start x.count after }

-- a line with `unsound` for the judgement of the state: what a player that knows its state to be sound goes by
unfoldable pub answer_on : Bool → State → List ℕ → List ℕ → Reply
answer_on unsound s area line = reply_on unsound s area (given_words (frame_of line) line) (frame_of line)
