-- What `some` finds. Assumes nothing.
use Rattle.std.proofs.Common.{◌≡◌, ℕ, zero, suc, ◌<◌, Bool, true, false, ◌||◌, Decides, refl, ap, ◌∙◌, ⊎_elim}
use Rattle.std.proofs.lemmas.Bool.{cases_Bool}
use Rattle.std.proofs.lemmas.Bool.Decides.{Decides-below_or, same_from_decides}
use Rattle.grid.specs.Some.{some}

-- two tests that pass together are the same
pub same_tests : (x y : Bool) → (x ≡ true → y ≡ true) → (y ≡ true → x ≡ true) → x ≡ y
same_tests x y f g = same_from_decides x y (f, g) (λ e. e, λ e. e)

pub decides_some : (n : ℕ) (f : ℕ → Bool) → Decides (some n f) ((k : ℕ) × (k < n) × (f k ≡ true))
unfolding some
decides_some n f = Decides-below_or f (λ k. f k ≡ true) (λ m. some m f) (λ k. (λ e. e, λ e. e)) refl (λ _. refl) n

pub some_found : (n : ℕ) (f : ℕ → Bool) → some n f ≡ true → (k : ℕ) × (k < n) × (f k ≡ true)
some_found n f e = (decides_some n f).0 e

pub some_at : (n : ℕ) (f : ℕ → Bool) (k : ℕ) → k < n → f k ≡ true → some n f ≡ true
some_at n f k below e = (decides_some n f).1 (k, below, e)

pub some_never : (n : ℕ) (f : ℕ → Bool) → ((k : ℕ) → k < n → f k ≡ true → ⊥) → some n f ≡ false
some_never n f none = ⊎_elim
    (λ e. let w = some_found n f e in absurd (none w.0 w.1 w.2))
    (λ e. e)
    (cases_Bool (some n f))

-- two searches agree where each finds what the other has
pub some_same : (n m : ℕ) (f g : ℕ → Bool) → ((k : ℕ) → k < n → f k ≡ true → some m g ≡ true) → ((k : ℕ) → k < m → g k ≡ true → some n f ≡ true)
    → some n f ≡ some m g
some_same n m f g to from =
    same_tests (some n f) (some m g)
    (λ e. let w = some_found n f e in to w.0 w.1 w.2)
    (λ e. let w = some_found m g e in from w.0 w.1 w.2)

pub some_tests : (n : ℕ) (f g : ℕ → Bool) → ((k : ℕ) → f k ≡ g k) → some n f ≡ some n g
unfolding some
some_tests zero f g e = refl
some_tests (suc n) f g e = ap (λ x. x || some n f) (e n) ∙ ap (λ x. g n || x) (some_tests n f g e)
