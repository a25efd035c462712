-- M-112: "an ask or a report on one channel and one on another give the same answers and the same state, area and all, in either order,
-- refused ones too". Assumes nothing.
use Rattle.std.specs.Prelude.{◌≡◌, true, List, ℕ}
use Rattle.routines.specs.declared.Naming.{Naming}
use Rattle.routines.specs.Ranks.{is_due}
use Rattle.routines.specs.Posts.{post_at}
use Rattle.state.specs.declared.State.{State}
use Rattle.state.specs.Places.{file_at}
use Rattle.pack.specs.Calls.{Call, ask, report, Added, Answer, answer_of}
use Rattle.pack.specs.Histories.{is_answer}

-- "an ask or a report"
pub data Requests : Call → Type 0 where
  asking : {file op priority : ℕ} {naming : Naming} → Requests (ask file op priority naming)
  reporting : {channel unit outcome len : ℕ} {words : List ℕ} → Requests (report channel unit outcome len words)

-- "on one channel": an ask is on the channel that its file is open on, a report on the one that it names; an ask of a file that is not open
-- is on none
pub data On (s : State) (c : ℕ) : Call → Type 0 where
  asks : {file op priority : ℕ} {naming : Naming} → (file_at s file).opened ≡ true → (file_at s file).channel ≡ c → On s c (ask file op priority naming)
  reports : {channel unit outcome len : ℕ} {words : List ℕ} → channel ≡ c → On s c (report channel unit outcome len words)

-- "requests that name a special routine are no part of this": a report that answers a request which names one
pub data AnswersNaming (s : State) (area : List ℕ) : Call → Type 0 where
  answers_naming : {channel unit outcome len : ℕ} {words : List ℕ} → (answer_of s area (report channel unit outcome len words)).refusal ≡ 0
      → is_answer (answer_of s area (report channel unit outcome len words)).added ≡ true → is_due (post_at s.routines channel unit).named ≡ true
      → AnswersNaming s area (report channel unit outcome len words)

-- what an answer says: the refusal, or what it adds and the words that it shows
pub record Says : Type 0 where
  pub refusal : ℕ
  pub added : Added
  pub shows : List ℕ

abbrev pub says : Answer → Says
says a = record { refusal = a.refusal; added = a.added; shows = a.shows }

-- the answer to y after x, each given the state and the area that the last one left
abbrev pub afterwards : State → List ℕ → Call → Call → Answer
afterwards s area x y = answer_of (answer_of s area x).state (answer_of s area x).area y

pub record EitherOrder (s : State) (xs : List ℕ) (x y : Call) : Type 0 where
  -- "the same answers": to each after the other as to each alone
  pub first : says (afterwards s xs y x) ≡ says (answer_of s xs x)
  pub second : says (afterwards s xs x y) ≡ says (answer_of s xs y)
  -- "and the same state, area and all"
  pub state : (afterwards s xs x y).state ≡ (afterwards s xs y x).state
  pub area : (afterwards s xs x y).area ≡ (afterwards s xs y x).area
