-- What a line of a script orders. Assumes nothing.
--     metres_of w, number_of w, byte_of w    the word's number, where its place can hold it
--     ordered k ws      the order of kind k with the words ws behind its word, and the bytes of its row, where it has one
--     Says x r row      a call that has the order and the row of x, if there is one; or one where memory failed
--     meaning ws        what a line of the words ws says: no order, one, or that it is unclear; and the bytes of a row in it
--     IsRead m r row    a call that says m; or one where memory failed
use Rattle.std.specs.Prelude.{◌≡◌, ℕ, ◌-◌, ◌^◌, List, [], ◌∷◌, Some, None, Option, Ok, Err, Result, ⊤}
use Rattle.std.specs.Option.{option_map}
use Rattle.texts.specs.declared.unread.Unread.{Unread}
use Rattle.texts.specs.declared.unread.Unread.TheVariants.{Unclear, Memory}
use Rattle.texts.specs.Numbers.{Reader, upto, signed_of}
use Rattle.texts.specs.Operands.{of_first, behind, onward, bytes_of, one, two, three}
use Rattle.script.specs.declared.kinds.Kind.{Kind}
use Rattle.script.specs.declared.kinds.Kind.TheVariants as kind
use Rattle.script.specs.declared.orders.Order.{Order}
use Rattle.script.specs.declared.orders.Order.TheVariants as order
use Rattle.script.specs.Kinds.{kind_of}

abbrev pub metres_of : Reader ℕ
metres_of = upto (2 ^ 32 - 1)

abbrev pub number_of : Reader ℕ
number_of = upto 65535

abbrev pub byte_of : Reader ℕ
byte_of = upto 255

-- an order without a row
abbrev pub alone : Option Order → Option (Order × List ℕ)
alone = option_map (λ o. (o, []))

-- a mark, an approach code and the row's bytes
abbrev pub with_row : (ℕ → ℕ → Order) → List (List ℕ) → Option (Order × List ℕ)
with_row make ws = onward (of_first number_of ws) (λ mark. onward (of_first byte_of (behind ws)) (λ approach. option_map (λ row. (make mark approach, row)) (bytes_of (behind (behind ws)))))

abbrev pub ordered : Kind → List (List ℕ) → Option (Order × List ℕ)
ordered kind.Start ws = alone (option_map order.Start (one metres_of ws))
ordered kind.Interval ws = alone (option_map (λ x. order.Interval x.0 x.1) (two number_of metres_of ws))
ordered kind.Gradient ws = alone (option_map (λ x. order.Gradient x.0 x.1 x.2) (three metres_of metres_of signed_of ws))
ordered kind.Restriction ws = alone (option_map (λ x. order.Restriction x.0 x.1 x.2) (three metres_of metres_of byte_of ws))
ordered kind.Mark ws = alone (option_map (λ x. order.Mark x.0 x.1 x.2) (three number_of metres_of metres_of ws))
ordered kind.WorkOut ws = alone (option_map (λ x. order.WorkOut x.0 x.1) (two number_of byte_of ws))
ordered kind.Examine ws = with_row order.Examine ws

abbrev pub said : Option (Order × List ℕ) → Result (Option Order) Unread × List ℕ
said None = (Err Unclear, [])
said (Some x) = (Ok (Some x.0), x.1)

abbrev pub meaning : List (List ℕ) → Result (Option Order) Unread × List ℕ
meaning [] = (Ok None, [])
meaning (w ∷ ws) = said (onward (kind_of w) (λ k. ordered k ws))

abbrev pub Says : Option (Order × List ℕ) → Result Order Unread → List ℕ → Type 0
Says x (Ok o) row = x ≡ Some (o, row)
Says x (Err Unclear) row = (x ≡ None) × (row ≡ [])
Says x (Err (Memory error)) row = ⊤

abbrev pub IsRead : Result (Option Order) Unread × List ℕ → Result (Option Order) Unread → List ℕ → Type 0
IsRead m (Ok o) row = m ≡ (Ok o, row)
IsRead m (Err Unclear) row = m ≡ (Err Unclear, row)
IsRead m (Err (Memory error)) row = ⊤
