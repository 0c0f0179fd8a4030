-- Reading words one after the other. Assumes nothing.
--     of_first f ws        what f reads of the first word; none where there is no word
--     behind ws            the words behind the first
--     is_none ws           whether there is no word
--     Takes f ws r ws'     r is what f reads of the first word of ws, and ws' are the words behind it
--     bytes_of ws          the bytes that some words write, one each; none where a word writes no byte
--     Fills ws r bs        r is `Ok` and bs are the bytes that ws write; or r says that the line is unclear and ws do not write bytes;
--                          or r says that memory failed
--     one, two, three      what readers read of just so many words, one each; none where a word cannot be read, or where there are
--                          more or fewer words
use Rattle.std.specs.Prelude.{◌≡◌, ℕ, Bool, true, false, cond, List, [], ◌∷◌, Some, None, Option, Ok, Err, Result, ⊤}
use Rattle.std.specs.Option.{option_map}
use Rattle.texts.specs.declared.unread.Unread.{Unread}
use Rattle.texts.specs.declared.unread.Unread.TheVariants.{Unclear, Memory}
use Rattle.texts.specs.Numbers.{Reader, upto}

abbrev pub of_first : {X : Type 0} → Reader X → List (List ℕ) → Option X
of_first f [] = None
of_first f (w ∷ ws) = f w

abbrev pub behind : List (List ℕ) → List (List ℕ)
behind [] = []
behind (w ∷ ws) = ws

abbrev pub is_none : List (List ℕ) → Bool
is_none [] = true
is_none (w ∷ ws) = false

pub record Takes {X : Type 0} (f : Reader X) (ws : List (List ℕ)) (r : Option X) (ws' : List (List ℕ)) : Type 0 where
  pub value : r ≡ of_first f ws
  pub rest : ws' ≡ behind ws

abbrev pub onward : {X Y : Type 0} → Option X → (X → Option Y) → Option Y
onward None k = None
onward (Some x) k = k x

-- x, where no word is left
abbrev pub last : {X : Type 0} → X → List (List ℕ) → Option X
last x ws = cond (is_none ws) (Some x) None

abbrev pub one : {A : Type 0} → Reader A → List (List ℕ) → Option A
one f ws = onward (of_first f ws) (λ a. last a (behind ws))

abbrev pub two : {A B : Type 0} → Reader A → Reader B → List (List ℕ) → Option (A × B)
two f g ws = onward (of_first f ws) (λ a. option_map (λ b. (a, b)) (one g (behind ws)))

abbrev pub three : {A B C : Type 0} → Reader A → Reader B → Reader C → List (List ℕ) → Option (A × B × C)
three f g h ws = onward (of_first f ws) (λ a. option_map (λ bc. (a, bc.0, bc.1)) (two g h (behind ws)))

unfoldable pub bytes_of : List (List ℕ) → Option (List ℕ)
bytes_of [] = Some []
bytes_of (w ∷ ws) = onward (upto 255 w) (λ b. option_map (λ bs. b ∷ bs) (bytes_of ws))

abbrev pub Fills : List (List ℕ) → Result ⊤ Unread → List ℕ → Type 0
Fills ws (Ok done) bs = bytes_of ws ≡ Some bs
Fills ws (Err Unclear) bs = bytes_of ws ≡ None
Fills ws (Err (Memory error)) bs = ⊤
