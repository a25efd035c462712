-- What every line keeps: a sound state, the counts of its files and channels, and the length of the area. Assumes nothing.
use mathlib.Core.Path.{◌≡◌, refl, ap, ◌∙◌, subst}
use mathlib.Core.Bool.{Bool, true, false, not, cond}
use mathlib.Core.List.{List}
use Prim.Native.Nat.{ℕ}
use borrow.Author.Tests.{eqb-true}
use lib.Dec.{eqb}
use lib.ListN.{length, length-set}
use Rattle.area.proofs.Marks.{cond_false}
use Rattle.channel.specs.declared.Channel.{Channel}
use Rattle.file.specs.declared.File.{File}
use Rattle.session_frame.specs.declared.Frame.{Frame}
use Rattle.session_frame.specs.declared.Frame.TheVariants.{Malformed, Fresh, Open, Close, Ask, Report, Get, Put, Seal, Skip, Freeze, Thaw, Return, Running}
use Rattle.session_frame.specs.Frames.{frame_of}
use Rattle.routines.specs.declared.Routines.{Routines}
use Rattle.state.specs.declared.State.{State}
use Rattle.state.specs.Stores.{with_file, with_channel, with_routines}
use Rattle.state_sound.specs.Soundness.{sound}
use Rattle.pack_start.specs.Fresh.{fresh_by}
use Rattle.pack_start.proofs.FreshTheorems.{fresh_kept}
use Rattle.pack_open.proofs.OpenTheorems.{open_kept}
use Rattle.pack_open.proofs.CloseTheorems.{close_kept}
use Rattle.pack_start.proofs.FreezeTheorems.{freeze_kept, thaw_kept}
use Rattle.pack_request.proofs.AskTheorems.{ask_kept}
use Rattle.pack_request.proofs.ReportTheorems.{report_kept}
use Rattle.pack_request.proofs.ReportWords.{report_area_length}
use Rattle.pack_routine.proofs.Theorems.{return_kept, running_kept}
use Rattle.pack_record.proofs.GetTheorems.{get_kept}
use Rattle.pack_record.proofs.SkipTheorems.{skip_kept}
use Rattle.pack_record.proofs.PutTheorems.{put_kept, put_area_frame}
use Rattle.pack_record.proofs.SealTheorems.{seal_kept, seal_area_frame}
use Rattle.session_reply.specs.Replies.{Reply, masks_of, given_words, reply_to, answer_to}
use Rattle.session_reply.specs.Places.{group_of}
use Rattle.session_reply.specs.Turns.{whole_refusal, record_turn, binding_turn, request_turn, whole_turn, routine_turn, Turned, turned_on, reply_on}
use Rattle.session_reply.proofs.Stores.{Counts, whole_counts}
use Rattle.session_reply.proofs.Agrees.{turned_right}

-- ---- a sound state stays sound

fresh_sound : (s : State) (n m w : ℕ) (masks : _) → sound s ≡ true → sound (fresh_by s n m w masks).state ≡ true
unfolding fresh_by
fresh_sound s n m w masks h = go (eqb (fresh_by s n m w masks).refusal 0) refl
  where
    go : (t : Bool) → eqb (fresh_by s n m w masks).refusal 0 ≡ t → sound (fresh_by s n m w masks).state ≡ true
    go true e = fresh_kept s n m w masks (eqb-true (fresh_by s n m w masks).refusal 0 e)
    go false e = ap sound (cond_false _ _ e) ∙ h

reply_kept : (s : State) (area words : List ℕ) (frame : Frame) → Counts s → sound s ≡ true → sound (reply_to s area words frame).state ≡ true
unfolding reply_to
reply_kept s area words Malformed k h = h
reply_kept s area words (Fresh q) k h = fresh_sound s (length area) q.m q.w (masks_of q.masks) h
reply_kept s area words (Open q) k h = open_kept s q.file q.channel q.unit q.flags q.size q.rlen k.files h
reply_kept s area words (Close file) k h = close_kept s file h
reply_kept s area words (Ask q) k h = ask_kept s q.file q.op q.priority q.naming h
reply_kept s area words (Report q) k h = report_kept s area q.channel q.unit q.outcome q.length words k.files h
reply_kept s area words (Get file) k h = get_kept s area file h
reply_kept s area words (Put q) k h = put_kept s area q.file words h
reply_kept s area words (Seal file) k h = seal_kept s area file h
reply_kept s area words (Skip file) k h = skip_kept s file h
reply_kept s area words Freeze k h = freeze_kept s h
reply_kept s area words Thaw k h = thaw_kept s h
reply_kept s area words Return k h = return_kept s h
reply_kept s area words Running k h = running_kept s h

pub answer_kept : (s : State) (area line : List ℕ) → Counts s → sound s ≡ true → sound (answer_to s area line).state ≡ true
unfolding answer_to
answer_kept s area line k h = reply_kept s area (given_words (frame_of line) line) (frame_of line) k h

-- ---- it keeps its sixteen files and five channels

file_counts : (s : State) (i : ℕ) (f : File) → Counts s → Counts (with_file s i f)
unfolding with_file
file_counts s i f k = record { files = length-set s.files i f ∙ k.files; channels = k.channels }

channel_counts : (s : State) (j : ℕ) (c : Channel) → Counts s → Counts (with_channel s j c)
unfolding with_channel
channel_counts s j c k = record { files = k.files; channels = length-set s.channels j c ∙ k.channels }

routines_counts : (s : State) (r : Routines) → Counts s → Counts (with_routines s r)
unfolding with_routines
routines_counts s r k = record { files = k.files; channels = k.channels }

counts_turned : (b : Bool) (x y : Turned) → Counts x.state → Counts y.state → Counts (cond b x y).state
counts_turned true x y p q = p
counts_turned false x y p q = q

pub turned_counts : (unsound : Bool) (s : State) (area words : List ℕ) (frame : Frame) → Counts s → Counts (turned_on unsound s area frame words).state
unfolding turned_on request_turn whole_turn routine_turn binding_turn record_turn
turned_counts unsound s area words frame k =
    counts_turned (eqb (group_of frame) 1) _ _ (routines_counts _ _ (file_counts _ _ _ (channel_counts s _ _ k)))
    (counts_turned (eqb (group_of frame) 3) _ _ (whole_counts (whole_refusal unsound (length area) frame) s frame k)
    (counts_turned (eqb (group_of frame) 4) _ _ (routines_counts s _ k)
    (counts_turned (eqb (group_of frame) 2) _ _ (file_counts s _ _ k) (file_counts s _ _ k))))

on_counts : (unsound : Bool) (s : State) (area words : List ℕ) (frame : Frame) → Counts s → Counts (reply_on unsound s area words frame).state
unfolding reply_on
on_counts unsound s area words frame k = turned_counts unsound s area words frame k

pub answer_counts : (s : State) (area line : List ℕ) → Counts s → Counts (answer_to s area line).state
unfolding answer_to
answer_counts s area line k =
    subst (λ (r : Reply). Counts r.state) (turned_right s area (given_words (frame_of line) line) (frame_of line))
    (on_counts (not (sound s)) s area (given_words (frame_of line) line) (frame_of line) k)

-- ---- the area keeps its words

reply_area : (s : State) (area words : List ℕ) (frame : Frame) → Counts s → length (reply_to s area words frame).area ≡ length area
unfolding reply_to
reply_area s area words Malformed k = refl
reply_area s area words (Fresh q) k = refl
reply_area s area words (Open q) k = refl
reply_area s area words (Close file) k = refl
reply_area s area words (Ask q) k = refl
reply_area s area words (Report q) k = report_area_length s area q.channel q.unit q.outcome q.length words k.files
reply_area s area words (Get file) k = refl
reply_area s area words (Put q) k = (put_area_frame s area q.file words).long
reply_area s area words (Seal file) k = (seal_area_frame s area file).long
reply_area s area words (Skip file) k = refl
reply_area s area words Freeze k = refl
reply_area s area words Thaw k = refl
reply_area s area words Return k = refl
reply_area s area words Running k = refl

pub answer_area : (s : State) (area line : List ℕ) → Counts s → length (answer_to s area line).area ≡ length area
unfolding answer_to
answer_area s area line k = reply_area s area (given_words (frame_of line) line) (frame_of line) k
