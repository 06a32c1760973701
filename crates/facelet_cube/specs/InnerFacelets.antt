-- What a cube may be stored in: elements that are numbers, so that a slice of them is the list of those numbers.
use Rattle.std.specs.Prelude.{ℕ, ◌<◌, ◌≡◌, List, length, get_or, set, replicate, refl}
use Rattle.std.proofs.lemmas.List.{get_or_read_under}

-- a list of elements is the list of their numbers, place by place
pub record Pointwise {A : Type 0} (number : A → ℕ) (numbers : List A → List ℕ) : Type 0 where
  pub long : (l : List A) → length (numbers l) ≡ length l
  pub read : (l : List A) (i : ℕ) (x : A) → i < length l → x ≡ get_or l i x → number x ≡ get_or (numbers l) i 0
  pub written : (l : List A) (i : ℕ) (x : A) → numbers (set l i x) ≡ set (numbers l) i (number x)
  pub cleared : (k : ℕ) (x : A) → numbers (replicate k x) ≡ replicate k (number x)

-- numbers are their own numbers
pub plain : Pointwise {A = ℕ} (λ x. x) (λ l. l)
plain = record {
  long = λ l. refl;
  read = λ l i x h e. get_or_read_under l i (length l) x 0 e h refl;
  written = λ l i x. refl;
  cleared = λ k x. refl;
}
