-- What entries say of the ground, metre by metre. Assumes nothing.
--     covers metre entry              whether the metre is one of the entry's
--     values_at entries metre         the values of the entries that cover the metre
--     worst_of g values               the worst of some values; of none, that of undrawn ground
--     metre_value g entries metre     the worst of the entries that cover the metre, or undrawn
--     metres a b                      the metres of the stretch from a to b: a, a + 1, .., b - 1
--     stretch_value g entries a b     the worst of the metres of the stretch from a to b, or undrawn
use Rattle.std.specs.Prelude.{ℕ, ◌-◌, Bool, ◌&&◌, List, map, filter, nat_le, nat_lt}
use Rattle.std.specs.List.{range_with_len, reduce}
use Rattle.std.specs.Option.{unwrap_or}
use Rattle.ground.specs.Grading.{Grading}
use Rattle.ground.specs.declared.entries.Entry.{Entry}

abbrev pub covers : {V : Type 0} → ℕ → Entry V → Bool
covers metre entry = nat_le entry.from metre && nat_lt metre entry.to

unfoldable pub values_at : {V : Type 0} → List (Entry V) → ℕ → List V
values_at entries metre = map (λ entry. entry.value) (filter (covers metre) entries)

unfoldable pub worst_of : {V : Type 0} → Grading V → List V → V
worst_of g values = unwrap_or (reduce g.worse values) g.undrawn

unfoldable pub metre_value : {V : Type 0} → Grading V → List (Entry V) → ℕ → V
metre_value g entries metre = worst_of g (values_at entries metre)

abbrev pub metres : ℕ → ℕ → List ℕ
metres a b = range_with_len a (b - a)

unfoldable pub stretch_value : {V : Type 0} → Grading V → List (Entry V) → ℕ → ℕ → V
stretch_value g entries a b = worst_of g (map (metre_value g entries) (metres a b))
