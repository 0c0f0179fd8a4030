-- Where the intervals of a sheet end. Assumes nothing.
--     end_after from intervals n    where the n-th of the intervals from a metre on ends, and the last one where there are fewer; no
--                                   end lies beyond the highest u32
use Rattle.std.specs.Prelude.{ℕ, ◌+◌, ◌-◌, ◌^◌, List, take, fold, min}
use Rattle.rules.specs.declared.lines.Interval.{Interval}

abbrev pub end_after : ℕ → List Interval → ℕ → ℕ
end_after from intervals n = fold (λ end interval. min (end + interval.length) (2 ^ 32 - 1)) from (take n intervals)
