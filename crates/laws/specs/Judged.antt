-- When a table of figures in writing order is a book. Assumes nothing.
--     Ranged xs          each figure of xs is 1 to 4,095 m
--     Keeps xs           the figures of xs keep the four laws
--     Book xs            xs is the table of a book
--     Unfit xs n         refusal n is the first that is due to xs
--     fits xs, judged xs    the same as tests that can be computed
--     Judged xs r        r is that refusal, or none where xs is a book
use Rattle.std.specs.Prelude.{◌≡◌, ℕ, ◌<◌, Bool, cond, ◌&&◌, List, [], length, Ok, Err, Result, ◌==◌, ◌≢◌, nat_le, slice_index}
use Rattle.std.specs.List.{list_all}
use Rattle.codes.specs.declared.refusals.Refusal.{Refusal}
use Rattle.codes.specs.Refusals.{notice, Told, gives, refuses}
use Rattle.laws.specs.Books.{Metres, Laws}
use Rattle.laws.specs.Questions.{emergency_of, service_of}
use Rattle.laws.specs.Order.{in_order}

abbrev pub Ranged : List ℕ → Type 0
Ranged xs = (i : ℕ) → i < length xs → Metres (slice_index xs i)

abbrev pub Keeps : List ℕ → Type 0
Keeps xs = Laws (emergency_of xs) (service_of xs)

-- 594 figures in range that keep the laws
pub record Book (xs : List ℕ) : Type 0 where
  pub whole : length xs ≡ 594
  pub ranged : Ranged xs
  pub keeps : Keeps xs

-- the tests
abbrev pub metres : ℕ → Bool
metres d = nat_le 1 d && nat_le d 4095

-- the first refusal due, by the tests
abbrev pub judged : List ℕ → Told (Unit {0})
judged xs =
    cond (length xs == 594)
    (cond (list_all metres xs) (cond (in_order (emergency_of xs) (service_of xs)) (gives tt) (refuses (20, []))) (refuses (17, [])))
    (refuses (10, []))

abbrev pub fits : List ℕ → Bool
fits xs = length xs == 594 && list_all metres xs && in_order (emergency_of xs) (service_of xs)

-- the number of the first refusal that is due to a table that is no book
pub data Unfit (xs : List ℕ) : ℕ → Type 0 where
  size : (length xs ≢ 594) → Unfit xs 10
  entry : length xs ≡ 594 → (Ranged xs → ⊥) → Unfit xs 17
  order : length xs ≡ 594 → Ranged xs → (Keeps xs → ⊥) → Unfit xs 20

abbrev pub Judged : List ℕ → Result (Unit {0}) Refusal → Type 0
Judged xs (Ok done) = Book xs
Judged xs (Err w) = Unfit xs (notice w).0
