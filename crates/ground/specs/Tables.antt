-- Tables with a count: the first so many records are in use. Assumes nothing.
--     contents table count            the records in use
--     with_room size count limit after    what follows where a table of so many places has room for one more, else the
--                                     first refusal that is due
--     appending size count limit      what appending to a table of so many places answers: the count after it, or the
--                                     first refusal that is due
--     removing size count place       what removing from a table of so many places answers
--     closed_up table count place     the table once the record at the place is taken out
use Rattle.std.specs.Prelude.{ℕ, ◌+◌, ◌-◌, cond, ◌||◌, List, [], ◌++◌, take, drop, nat_le, nat_lt}
use Rattle.std.specs.List.{remove}
use Rattle.codes.specs.Refusals.{Told}
use Rattle.codes.specs.Refusals.Told.{gives, refuses}

abbrev pub contents : {X : Type 0} → List X → ℕ → List X
contents table count = take count table

abbrev pub with_room : {X : Type 0} → ℕ → ℕ → ℕ → Told X → Told X
with_room size count limit after = cond (nat_lt size count) (refuses (10, [])) (cond (nat_le limit count || nat_le size count) (refuses (1, [])) after)

abbrev pub appending : ℕ → ℕ → ℕ → Told ℕ
appending size count limit = with_room size count limit (gives (count + 1))

abbrev pub removing : ℕ → ℕ → ℕ → Told ℕ
removing size count place = cond (nat_lt size count) (refuses (10, [])) (cond (nat_le count place) (refuses (8, [])) (gives (count - 1)))

-- those behind the place come down one, and from the last place in use on all stays as it was
unfoldable pub closed_up : {X : Type 0} → List X → ℕ → ℕ → List X
closed_up table count place = remove (contents table count) place ++ drop (count - 1) table
