-- The rooms that a line's words and its answer are lent. Assumes nothing.
use Rattle.std.specs.Prelude.{ℕ, Bool, cond, not, ◌||◌, List, [], ltb, length}
use Rattle.area.specs.Parts.{paste, pasted_in}
use Rattle.session_frame.specs.Writes.{place_after}
use Rattle.session_frame.specs.declared.Frame.{Frame}
use Rattle.session_frame.specs.declared.Frame.TheVariants.{Malformed, Fresh, Open, Close, Ask, Report, Get, Put, Seal, Skip, Freeze, Thaw, Return, Running}
use Rattle.session_frame.specs.Frames.{words_at, frame_of, words_from}
use Rattle.state.specs.declared.State.{State}
use Rattle.session_reply.specs.Replies.{Reply, given_words, text_of}

-- the most words that a line has, and the most characters that an answer has with its line feed
abbrev pub most_words : ℕ
most_words = 1024

abbrev pub most_text : ℕ
most_text = 10249

abbrev pub lacks_rooms : List ℕ → List ℕ → Bool
lacks_rooms words out = ltb (length words) most_words || ltb (length out) most_text

-- the words of a line that a room of n words takes
unfoldable pub given_in : Frame → List ℕ → ℕ → List ℕ
given_in (Report q) line n = words_from line (words_at q) n
given_in (Put q) line n = words_from line 2 n
given_in Malformed line n = []
given_in (Fresh q) line n = []
given_in (Open q) line n = []
given_in (Close file) line n = []
given_in (Ask q) line n = []
given_in (Get file) line n = []
given_in (Seal file) line n = []
given_in (Skip file) line n = []
given_in Freeze line n = []
given_in Thaw line n = []
given_in Return line n = []
given_in Running line n = []

-- everything after a line: the state, the answer's length, the area, the words' room, the answer's room
pub record After : Type 0 where
  pub state : State
  pub length : ℕ
  pub area : List ℕ
  pub words : List ℕ
  pub out : List ℕ

-- the answer stands at the front of its room and the line's words at the front of theirs, all else stays; a text that its room does not take is
-- not written, and its length is 0. Without the two rooms nothing is done.
unfoldable pub after_line : Reply → State → List ℕ → List ℕ → List ℕ → List ℕ → After
after_line r s area line words out =
    cond (lacks_rooms words out)
    (record { state = s; length = 0; area = area; words = words; out = out })
    (record {
      state = r.state;
      length = place_after 0 (text_of r) out;
      area = r.area;
      words = paste 0 (given_words (frame_of line) line) words;
      out = pasted_in 0 (text_of r) out;
    })
