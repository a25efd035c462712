-- Laws of `changed_state`: what a call on one file and one channel leaves alone, and a change that keeps a sound state sound. Assumes nothing.
use mathlib.Core.Path.{◌≡◌, refl, ap, subst, ◌∙◌}
use mathlib.Core.Logic.{◌≢◌}
use mathlib.Core.Bool.{Bool, true, false, cond}
use mathlib.Core.List.{List}
use Prim.Native.Nat.{ℕ, ◌<◌}
use lib.Dec.{eqb}
use lib.ListN.{length, set, length-set}
use lib.Seq.{get_or-set_same, get_or-set_other}
use borrow.Author.Tests.{ne_eqb}
use Rattle.channel.specs.declared.Channel.{Channel}
use Rattle.file.specs.declared.File.{File}
use Rattle.file.specs.Sizes.{closed_file}
use Rattle.routines.specs.declared.Routines.{Routines}
use Rattle.routines.proofs.Laws.Facts.{RoutinesFacts}
use Rattle.routines_sound.specs.Beside.{declared_in, request_in}
use Rattle.state_sound.proofs.Replaced.{Alike}
use Rattle.state.specs.declared.State.{State}
use Rattle.state.specs.Places.{no_channel, file_at, channel_at}
use Rattle.state.specs.Stores.{with_file, with_channel, with_routines}
use Rattle.state_sound.specs.Requests.{requested}
use Rattle.state_sound.specs.Judged.{file_ready}
use Rattle.state_sound.proofs.Facts.{SoundFacts}
use Rattle.state_sound.proofs.ChannelCalls.{Moved}
use Rattle.state_sound.proofs.Kept.{SameHoldings, both_kept}
use Rattle.pack_request.specs.Changes.{changed_state}
use Rattle.pack_request.proofs.Ready.{Became}
use Rattle.std.specs.declared.option.Option.{Option}
use Rattle.channel.specs.declared.Op.{Op}

-- what stays of a state, apart from its file i and its channel j
pub record Frame (s t : State) (i j : ℕ) : Type 0 where
  pub buffers : t.m ≡ s.m
  pub words : t.w ≡ s.w
  pub frozen : t.frozen ≡ s.frozen
  pub files : (k : ℕ) → k ≢ i → file_at t k ≡ file_at s k
  pub channels : (k : ℕ) → k ≢ j → channel_at t k ≡ channel_at s k
  pub file_count : length t.files ≡ length s.files
  pub channel_count : length t.channels ≡ length s.channels

module _ (s : State) (i j n : ℕ) (f : File) (c : Channel) (r : Routines) where
  pub changed_refused : (n ≡ 0 → ⊥) → changed_state s i j n f c r ≡ s
  unfolding changed_state
  changed_refused h = rw (ne_eqb n 0 h)

  pub changed_taken : n ≡ 0 → changed_state s i j n f c r ≡ with_routines (with_file (with_channel s j c) i f) r
  unfolding changed_state
  changed_taken h = rw h

  pub changed_frame : Frame s (changed_state s i j n f c r) i j
  unfolding changed_state with_routines with_file with_channel
  changed_frame = go (eqb n 0)
    where
      go : (b : Bool) → Frame s (cond b (with_routines (with_file (with_channel s j c) i f) r) s) i j
      go true = record {
        buffers = refl;
        words = refl;
        frozen = refl;
        files = λ k ne. get_or-set_other s.files i k f closed_file ne;
        channels = λ k ne. get_or-set_other s.channels j k c no_channel ne;
        file_count = length-set s.files i f;
        channel_count = length-set s.channels j c;
      }
      go false = record {
        buffers = refl;
        words = refl;
        frozen = refl;
        files = λ k ne. refl;
        channels = λ k ne. refl;
        file_count = refl;
        channel_count = refl;
      }

  pub here_file : n ≡ 0 → i < length s.files → file_at (changed_state s i j n f c r) i ≡ f
  unfolding with_routines with_file with_channel
  here_file h l = ap (λ (t : State). file_at t i) (changed_taken h) ∙ get_or-set_same s.files i f closed_file l

  pub here_channel : n ≡ 0 → j < length s.channels → channel_at (changed_state s i j n f c r) j ≡ c
  unfolding with_routines with_file with_channel
  here_channel h l = ap (λ (t : State). channel_at t j) (changed_taken h) ∙ get_or-set_same s.channels j c no_channel l

-- the routines q are right beside these channels
abbrev pub Beside : List Channel → Bool → Routines → Type 0
Beside cs frozen q = RoutinesFacts (declared_in cs) (request_in cs) frozen q

-- the file that was on unit u of channel c became g, w is requested of that unit afterwards, and the routines q are right beside the channels then: a sound state is
-- sound still
pub became_sound : (s : State) (i c u : ℕ) (x : Channel) (g : File) (w : Option Op) (q : Routines) → SoundFacts s → (file_at s i).opened ≡ true → (file_at s i).channel ≡ c
    → (file_at s i).unit ≡ u → Moved s.m s.frozen (channel_at s c) x u w → Became s.m s.w w (file_at s i) g → Beside (set s.channels c x) s.frozen q
    → SoundFacts (with_routines (with_file (with_channel s c x) i g) q)
became_sound s i c u x g w q F o ec eu =
    subst (λ (n : ℕ). Moved s.m s.frozen (channel_at s n) x u w → Became s.m s.w w (file_at s i) g → Beside (set s.channels n x) s.frozen q
    → SoundFacts (with_routines (with_file (with_channel s n x) i g) q)) ec
    (subst (λ (n : ℕ). Moved s.m s.frozen (channel_at s (file_at s i).channel) x n w → Became s.m s.w w (file_at s i) g
    → Beside (set s.channels (file_at s i).channel x) s.frozen q → SoundFacts (with_routines (with_file (with_channel s (file_at s i).channel x) i g) q)) eu here)
  where
    same : Alike (file_at s i) g → SameHoldings g (file_at s i)
    same A = record { opened = A.opened; channel = A.channel; unit = A.unit; double = A.double; low = A.low; high = A.high }

    here : Moved s.m s.frozen (channel_at s (file_at s i).channel) x (file_at s i).unit w → Became s.m s.w w (file_at s i) g
        → Beside (set s.channels (file_at s i).channel x) s.frozen q
        → SoundFacts (with_routines (with_file (with_channel s (file_at s i).channel x) i g) q)
    here M B R =
        both_kept s i x g F o (same B.alike) B.sound (ap (λ (v : Option Op). file_ready v g) M.here ∙ B.ready) M.facts (M.known ∙ F.declared i o) M.others q R
