-- A number is read back from its bytes, and bytes from their number. Assumes nothing.
use mathlib.Core.Path.{◌≡◌, refl, ap, ◌∙◌}
use mathlib.Core.Bool.{Bool, true, false}
use mathlib.Core.List.{List, [], ◌∷◌, ◌++◌}
use mir.Val.{bool_byte}
use Prim.Native.Nat.{ℕ, zero, suc, ◌+◌, ◌*◌, ◌-◌, ◌/◌, ◌%◌, ◌≤◌, ◌<◌}
use native.Mathlib.Nat.{div-add-mod', suc-mul, zero-mul}
use native.Mathlib.Omega.{arith}
use lib.Dec.{eqb}
use Rattle.codec.specs.Codecs.{Keeps, All, write_each, read_each}
use lib.ListN.{length, take, drop, length-drop, take-append-drop}
use Rattle.codec.specs.Rows.{four, eight, eight_of, eight_bytes, word_codec}
use Rattle.codec.proofs.Codecs.{any, all_drop}

-- a truth, as its byte
pub flag_back : (b : Bool) → eqb (bool_byte b) 1 ≡ b
flag_back true = refl
flag_back false = refl

pub two_back : (n : ℕ) → n % 256 + n / 256 * 256 ≡ n
two_back n = omega (arith, div-add-mod' n 256)

pub four_back : (n : ℕ) → n % 256 + (n / 256 % 256 + (n / 256 / 256 % 256 + n / 256 / 256 / 256 * 256) * 256) * 256 ≡ n
four_back n = rw (two_back (n / 256 / 256), two_back (n / 256)) (two_back n)

pub word_keeps : Keeps word_codec any
word_keeps = record {
  sized = λ n. refl;
  back = λ n rest g.
      rw (four_back (n % 4294967296), four_back (n / 4294967296)) (omega (arith, div-add-mod' n 4294967296));
}

-- ---- the other way: bytes are those of their number

pub four_bytes_lem : (a b c d : ℕ) → a < 256 → b < 256 → c < 256
    → (four a b c d % 256 ≡ a) × (four a b c d / 256 % 256 ≡ b) × (four a b c d / 256 / 256 % 256 ≡ c) × (four a b c d / 256 / 256 / 256 ≡ d)
four_bytes_lem a b c d p q r =
    let e : four a b c d / 256 ≡ b + (c + d * 256) * 256 = omega arith in
    let f : (b + (c + d * 256) * 256) / 256 ≡ c + d * 256 = omega arith in
    let g : (c + d * 256) / 256 ≡ d = omega arith in
    (omega arith, rw e (omega arith), rw (e, f) (omega arith), rw (e, f) g)

halves : (m k : ℕ) → m < 4294967296 → ((m + k * 4294967296) % 4294967296 ≡ m) × ((m + k * 4294967296) / 4294967296 ≡ k)
halves m k h = (omega arith, omega arith)

eight_bytes_lem : (a b c d p q r s : ℕ) → a < 256 → b < 256 → c < 256 → d < 256 → p < 256 → q < 256 → r < 256
    → eight_bytes (eight a b c d p q r s) ≡ a ∷ b ∷ c ∷ d ∷ p ∷ q ∷ r ∷ s ∷ []
eight_bytes_lem a b c d p q r s ha hb hc hd hp hq hr =
    let small : four a b c d < 4294967296 = omega arith in
    let e = halves (four a b c d) (four p q r s) small in
    let f = four_bytes_lem a b c d ha hb hc in
    let g = four_bytes_lem p q r s hp hq hr in
    rw (e.0, e.1, f.0, f.1, f.2, f.3, g.0, g.1, g.2, g.3)

-- bytes of a word are those of the word that they make
word_tight : (bs : List ℕ) → 8 ≤ length bs → All (λ (b : ℕ). b < 256) bs → eight_bytes (eight_of bs) ≡ take 8 bs
unfolding All
word_tight [] h g = absurd (omega arith)
word_tight (a ∷ []) h g = absurd (omega arith)
word_tight (a ∷ b ∷ []) h g = absurd (omega arith)
word_tight (a ∷ b ∷ c ∷ []) h g = absurd (omega arith)
word_tight (a ∷ b ∷ c ∷ d ∷ []) h g = absurd (omega arith)
word_tight (a ∷ b ∷ c ∷ d ∷ p ∷ []) h g = absurd (omega arith)
word_tight (a ∷ b ∷ c ∷ d ∷ p ∷ q ∷ []) h g = absurd (omega arith)
word_tight (a ∷ b ∷ c ∷ d ∷ p ∷ q ∷ r ∷ []) h g = absurd (omega arith)
word_tight (a ∷ b ∷ c ∷ d ∷ p ∷ q ∷ r ∷ s ∷ rest) h g =
    eight_bytes_lem a b c d p q r s g.0 g.1.0 g.1.1.0 g.1.1.1.0 g.1.1.1.1.0 g.1.1.1.1.1.0 g.1.1.1.1.1.1.0

pub words_tight : (n : ℕ) (bs : List ℕ) → length bs ≡ n * 8 → All (λ (b : ℕ). b < 256) bs → write_each word_codec (read_each word_codec n bs) ≡ bs
unfolding write_each read_each
words_tight zero [] e g = refl
words_tight zero (b ∷ bs) e g = absurd (omega (arith, e, zero-mul 8))
words_tight (suc n) bs e g =
    let m : suc n * 8 ≡ n * 8 + 8 = suc-mul n 8 in
    let long : 8 ≤ length bs = omega arith in
    let left : length (drop 8 bs) ≡ n * 8 = length-drop 8 bs ∙ (let z : length bs - 8 ≡ n * 8 = omega arith in z) in
    ap (λ (l : List ℕ). l ++ write_each word_codec (read_each word_codec n (drop 8 bs))) (word_tight bs long g)
    ∙ ap (λ (l : List ℕ). take 8 bs ++ l) (words_tight n (drop 8 bs) left (all_drop (λ (b : ℕ). b < 256) 8 bs g))
    ∙ take-append-drop 8 bs
