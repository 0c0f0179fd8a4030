-- The table of examples, as it was worked out by hand. Assumes nothing.
--     table        its lines: the question and what the rules say, with a sheet by what differs from the plain one
use Rattle.std.specs.Prelude.{ℕ, List, [], ◌∷◌, ℤ, pos, neg_ℤ, Some, None}
use Rattle.codes.specs.declared.speeds.Speed.TheVariants.{V40, V50, V60, V70, V80, V100, V120}
use Rattle.codes.specs.declared.speeds.Code.TheVariants.{Stop, Go}
use Rattle.codes.specs.declared.gradients.Class.TheVariants.{C1, C2, C9, C10, C11}
use Rattle.rules.specs.Rules.{service, next}
use Rattle.rows.specs.declared.letters.StopLetter.TheVariants.{Sv}
use Rattle.alfa.specs.declared.sheets.Variant.{Variant}
use Rattle.alfa.specs.declared.table.Example.{Example}
use Rattle.alfa.specs.declared.table.Example.TheVariants.{Highest, NoRow, Passes, Breaks, OfClass, NoFaldtal}

abbrev plain : Variant
plain = record { danger = 11160; drawn_to = 13000; slow_to = None }

-- the sheet with its danger point, the end of its gradient or the end of a restriction elsewhere
abbrev danger_at : ℕ → Variant
danger_at metre = record plain { danger = metre }

abbrev drawn_to : ℕ → Variant
drawn_to metre = record plain { drawn_to = metre }

abbrev slow_to : ℕ → Variant
slow_to metre = record plain { slow_to = Some metre }

-- a fall, in tenths of a permille
abbrev faldtal : ℕ → ℤ
faldtal fall = neg_ℤ (pos fall)

abbrev pub table : List Example
table =
    Highest plain V100 (Go V80 ∷ Go V60 ∷ Go V50 ∷ Stop ∷ []) Sv 4 ∷
    NoRow plain V120 ∷
    Highest (danger_at 11145) V100 (Go V80 ∷ Go V60 ∷ Go V50 ∷ Stop ∷ []) Sv 4 ∷
    Highest (danger_at 11144) V100 (Go V80 ∷ Go V60 ∷ Go V40 ∷ Stop ∷ []) Sv 4 ∷
    Highest (slow_to 10250) V60 (Go V50 ∷ Go V60 ∷ Go V50 ∷ Stop ∷ []) Sv 4 ∷
    NoRow (slow_to 10250) V70 ∷
    Highest (slow_to 10251) V60 (Go V50 ∷ Go V50 ∷ Go V50 ∷ Stop ∷ []) Sv 4 ∷
    NoRow (slow_to 10251) V70 ∷
    Highest (drawn_to 11160) V100 (Go V80 ∷ Go V60 ∷ Go V50 ∷ Stop ∷ []) Sv 4 ∷
    Highest (drawn_to 11159) V100 (Go V80 ∷ Go V60 ∷ Go V40 ∷ Stop ∷ []) Sv 4 ∷
    Passes plain V100 (Go V80 ∷ Go V60 ∷ Go V50 ∷ Stop ∷ []) ∷
    Breaks plain V100 (Go V80 ∷ Go V70 ∷ Go V50 ∷ Stop ∷ []) 2 next ∷
    Breaks plain V100 (Go V80 ∷ Go V60 ∷ Go V60 ∷ Stop ∷ []) 3 service ∷
    OfClass (faldtal 25) C1 ∷
    OfClass (faldtal 26) C2 ∷
    OfClass (faldtal 30) C2 ∷
    OfClass (faldtal 225) C9 ∷
    OfClass (faldtal 226) C10 ∷
    OfClass (faldtal 350) C11 ∷
    NoFaldtal (faldtal 351) ∷ []
