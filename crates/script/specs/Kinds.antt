-- The words that begin the lines of a script. Assumes nothing.
--     spelling k        the word of a kind of order
--     kind_of w         the kind whose word w is, if there is one
use Rattle.std.specs.Prelude.{ℕ, List, [], ◌∷◌, codes, Option}
use Rattle.std.specs.List.{find}
use Rattle.std.specs.Str.{bytes_eq}
use Rattle.script.specs.declared.kinds.Kind.{Kind}
use Rattle.script.specs.declared.kinds.Kind.TheVariants as kind

abbrev pub spelling : Kind → List ℕ
spelling kind.Start = codes "start"
spelling kind.Interval = codes "interval"
spelling kind.Gradient = codes "gradient"
spelling kind.Restriction = codes "restriction"
spelling kind.Mark = codes "mark"
spelling kind.WorkOut = codes "work-out"
spelling kind.Examine = codes "examine"

abbrev pub kinds : List Kind
kinds = kind.Start ∷ kind.Interval ∷ kind.Gradient ∷ kind.Restriction ∷ kind.Mark ∷ kind.WorkOut ∷ kind.Examine ∷ []

-- the first of the kinds whose word w is
abbrev pub kind_of : List ℕ → Option Kind
kind_of w = find (λ k. bytes_eq w (spelling k)) kinds
