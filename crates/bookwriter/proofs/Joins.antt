-- Records that are written into a buffer one after the other. Assumes nothing.
use Rattle.std.proofs.Common.{◌≡◌, ℕ, zero, suc, ◌+◌, ◌<◌, ◌≤◌, Bool, true, false, cond, List, [], ◌∷◌, ◌++◌, map, length, get_or, take, drop, sym, refl, ap, ◌∙◌, subst, arith}
use Rattle.std.specs.List.{flat_map}
use Rattle.std.proofs.lemmas.List.{append_assoc, length-append, length-drop, length-take-le, take-append-drop, take_at, drop_at, drop-drop, take_more, take_all, drop_all, append-nil, flat_map_more}
use Rattle.codes.specs.declared.speeds.Speed.{Speed}
use Rattle.codes.specs.declared.speeds.Code.{Code}
use Rattle.codes.specs.declared.speeds.Code.TheVariants.{Go}
use Rattle.codes.specs.declared.gradients.Class.{Class}
use Rattle.codes.specs.Speeds.{lower}
use Rattle.codes.specs.Refusals.{gives, refuses}
use Rattle.laws.specs.Books.{Emergencies, Services, answered}
use Rattle.laws.specs.Questions.{Question, emergency, service}
use Rattle.bookrecords.specs.Records.{states, spelt, spelling}
use Rattle.bookwriter.specs.declared.records.Writer.{Writer}
use Rattle.bookwriter.specs.Writing.{stated, bytes_of, asked, wrote, Wrote, Puts, HasRoom, Writes}

-- ---- two writes make one

module _ (before : List ℕ) (at : ℕ) where
  pub wrote_none : Wrote before at [] before at
  wrote_none = record { holds = sym (take-append-drop at before); moved = omega arith }

  module _ (xs ys : List ℕ) (within : at ≤ length before) where
    front : List ℕ
    front = take at before ++ xs

    reached : length front ≡ at + length xs
    unfolding front
    reached = length-append (take at before) xs ∙ ap (λ n. n + length xs) (length-take-le at before within)

    wrote_twice : wrote (wrote before at xs) (at + length xs) ys ≡ wrote before at (xs ++ ys)
    unfolding front
    wrote_twice =
        let place = at + length xs in
        let rest = drop (length xs) (drop at before) in
        ap (λ bs. take place bs ++ (ys ++ drop (length ys) (drop place bs))) (sym (append_assoc (take at before) xs rest))
        ∙ ap (λ bs. bs ++ (ys ++ drop (length ys) (drop place (front ++ rest)))) (take_at front rest place reached)
        ∙ ap (λ bs. front ++ (ys ++ drop (length ys) bs)) (drop_at front rest place reached)
        ∙ append_assoc (take at before) xs (ys ++ drop (length ys) rest)
        ∙ ap (λ bs. take at before ++ bs) (sym (append_assoc xs ys (drop (length ys) rest)))
        ∙ ap (λ bs. take at before ++ ((xs ++ ys) ++ bs)) (drop-drop (length ys) (length xs) (drop at before) ∙ ap (λ n. drop n (drop at before)) (sym (length-append xs ys)))

    wrote_both : {mid after : List ℕ} {p next : ℕ} → Wrote before at xs mid p → Wrote mid p ys after next → Wrote before at (xs ++ ys) after next
    wrote_both {mid} {after} {p} {next} first then = record {
      holds = then.holds ∙ ap (λ bs. wrote bs p ys) first.holds ∙ ap (λ n. wrote (wrote before at xs) n ys) first.moved ∙ wrote_twice;
      moved = let parts = length-append xs ys in let a = first.moved in let b = then.moved in omega arith;
    }

-- what fills a buffer is what it then holds
pub wrote_whole : (before bytes : List ℕ) {after : List ℕ} {next : ℕ} → length bytes ≡ length before → Wrote before 0 bytes after next → after ≡ bytes
wrote_whole before bytes full done =
    done.holds ∙ ap (λ rest. bytes ++ rest) (drop_all (length bytes) before (omega arith)) ∙ append-nil bytes

-- ---- the bytes of questions

module _ (E : Emergencies) (D : Services) where
  bytes_none : bytes_of E D [] ≡ []
  unfolding bytes_of spelling
  bytes_none = refl

  bytes_append : (ps qs : List Question) → bytes_of E D (ps ++ qs) ≡ bytes_of E D ps ++ bytes_of E D qs
  unfolding bytes_of spelling
  bytes_append [] qs = refl
  bytes_append (p ∷ ps) qs = ap (λ bs. spelt (stated E D p) ++ bs) (bytes_append ps qs) ∙ sym (append_assoc (spelt (stated E D p)) (bytes_of E D ps) (bytes_of E D qs))

  bytes_count : (ps qs : List Question) → length (bytes_of E D (ps ++ qs)) ≡ length (bytes_of E D ps) + length (bytes_of E D qs)
  bytes_count ps qs = ap length (bytes_append ps qs) ∙ length-append (bytes_of E D ps) (bytes_of E D qs)

  module _ (k : Class) (from : Speed) where
    -- a book answers the emergency questions that have a record, and refuses the others
    module _ (to : Code) where
      pub asked_given : {bytes : List ℕ} {m : ℕ} → bytes ≡ spelt (states (emergency k from to) m) → gives m ≡ answered E k from to → bytes ≡ bytes_of E D (asked k from to)
      unfolding bytes_of spelling asked
      asked_given {bytes} {m} is = go (lower to (Go from))
        where
          go : (b : Bool) → gives m ≡ cond b (gives (E k from to)) (refuses (17, [])) → bytes ≡ spelling (map (stated E D) (cond b (emergency k from to ∷ []) []))
          go true e = let same : m ≡ E k from to = cc in is ∙ ap (λ n. spelt (states (emergency k from to) n)) same
          go false e = absurd (let z : ◌≡◌ {A = ℕ} 0 1 = cc in omega arith)

      pub asked_refused : {why : ℕ × List ℕ} → refuses why ≡ answered E k from to → [] ≡ bytes_of E D (asked k from to)
      unfolding bytes_of spelling asked
      asked_refused {why} = go (lower to (Go from))
        where
          go : (b : Bool) → refuses why ≡ cond b (gives (E k from to)) (refuses (17, [])) → [] ≡ spelling (map (stated E D) (cond b (emergency k from to ∷ []) []))
          go true e = absurd (let z : ◌≡◌ {A = ℕ} 0 1 = cc in omega arith)
          go false e = refl

    pub service_given : {bytes : List ℕ} {m : ℕ} → bytes ≡ spelt (states (service k from) m) → m ≡ D k from → bytes ≡ bytes_of E D (service k from ∷ [])
    unfolding bytes_of spelling
    service_given is e = is ∙ ap (λ n. spelt (states (service k from) n)) e

-- ---- a loop that writes the questions f of each of a list

-- the writer before has written those of the first i of xs, and there is room for all
pub record Sofar (E : Emergencies) (D : Services) {X : Type 0} (f : X → List Question) (xs : List X) (before : Writer) (i : ℕ) (mid : Writer) : Type 0 where
  pub room : HasRoom E D before (flat_map f xs)
  pub writes : Writes E D before (flat_map f (take i xs)) mid

module _ (E : Emergencies) (D : Services) {X : Type 0} (f : X → List Question) where
  -- the first i, and the next one, are a part of all
  part_within : (xs : List X) (i : ℕ) (d : X) → i < length xs → length (bytes_of E D (flat_map f (take i xs))) + length (bytes_of E D (f (get_or xs i d))) ≤ length (bytes_of E D (flat_map f xs))
  part_within [] i d l = absurd (omega arith)
  part_within (x ∷ xs) zero d l =
      let none = ap length (bytes_none E D) in let all = bytes_count E D (f x) (flat_map f xs) in omega arith
  part_within (x ∷ xs) (suc i) d l =
      let further = part_within xs i d (omega arith) in
      let some = bytes_count E D (f x) (flat_map f (take i xs)) in
      let all = bytes_count E D (f x) (flat_map f xs) in
      omega arith

-- nothing was written
pub puts_none : (writer : Writer) → Puts writer [] writer
puts_none writer = record { wrote = wrote_none writer.buffer.now writer.place; same = refl }

-- a write keeps the length of the buffer
puts_length : (before after : Writer) (bytes : List ℕ) → before.place + length bytes ≤ length before.buffer.now → Puts before bytes after → length after.buffer.now ≡ length before.buffer.now
puts_length before after bytes room puts =
    let at = before.place in
    let bs = before.buffer.now in
    let front = length-take-le at bs (omega arith) in
    let behind = length-drop (length bytes) (drop at bs) in
    let rest = length-drop at bs in
    let two = length-append bytes (drop (length bytes) (drop at bs)) in
    let all = length-append (take at bs) (bytes ++ drop (length bytes) (drop at bs)) in
    let same = ap length puts.wrote.holds in
    omega arith

module _ (E : Emergencies) (D : Services) where
  pub writes_none : (writer : Writer) → Writes E D writer [] writer
  writes_none writer = subst (λ bs. Puts writer bs writer) (sym (bytes_none E D)) (puts_none writer)

  -- what is written first, and then, is written
  pub writes_both : {before mid after : Writer} (ps qs : List Question) → before.place ≤ length before.buffer.now → Writes E D before ps mid → Writes E D mid qs after → Writes E D before (ps ++ qs) after
  writes_both {before} {mid} {after} ps qs within first then = record {
    wrote = subst (λ bs. Wrote before.buffer.now before.place bs after.buffer.now after.place) (sym (bytes_append E D ps qs))
        (wrote_both before.buffer.now before.place (bytes_of E D ps) (bytes_of E D qs) within first.wrote then.wrote);
    same = then.same ∙ first.same;
  }

  -- room for both is room for the first, and then for the second
  pub room_first : (writer : Writer) (ps qs : List Question) → HasRoom E D writer (ps ++ qs) → HasRoom E D writer ps
  room_first writer ps qs room = let parts = bytes_count E D ps qs in omega arith

  pub room_then : {before mid : Writer} (ps qs : List Question) → HasRoom E D before (ps ++ qs) → Writes E D before ps mid → HasRoom E D mid qs
  room_then {before} {mid} ps qs room first =
      let parts = bytes_count E D ps qs in
      let kept = puts_length before mid (bytes_of E D ps) (omega arith) first in
      let moved = first.wrote.moved in
      omega arith

module _ {E : Emergencies} {D : Services} where
  module _ {X : Type 0} {f : X → List Question} {xs : List X} {before : Writer} where
    pub sofar_none : HasRoom E D before (flat_map f xs) → Sofar E D f xs before 0 before
    sofar_none room = record { room = room; writes = writes_none E D before }

    module _ {i : ℕ} {mid : Writer} (sofar : Sofar E D f xs before i mid) where
      pub sofar_room : (d : X) → i < length xs → HasRoom E D mid (f (get_or xs i d))
      sofar_room d l =
          let part = part_within E D f xs i d l in
          let room = sofar.room in
          let moved = sofar.writes.wrote.moved in
          let kept = puts_length before mid (bytes_of E D (flat_map f (take i xs))) (omega arith) sofar.writes in
          omega arith

      pub sofar_more : (d : X) → i < length xs → {after : Writer} → Writes E D mid (f (get_or xs i d)) after → Sofar E D f xs before (i + 1) after
      sofar_more d l {after} more =
          let some = flat_map f (take i xs) in
          let one = f (get_or xs i d) in
          let both : some ++ one ≡ flat_map f (take (i + 1) xs) = flat_map_more f [] (take i xs) (get_or xs i d) ∙ ap (flat_map f) (sym (take_more xs i d l)) in
          let within : before.place ≤ length before.buffer.now = let room = sofar.room in omega arith in
          record { room = sofar.room; writes = subst (λ qs. Writes E D before qs after) both (writes_both E D some one within sofar.writes more) }

      pub sofar_all : length xs ≤ i → Writes E D before (flat_map f xs) mid
      sofar_all past = subst (λ ys. Writes E D before (flat_map f ys) mid) (take_all i xs past) sofar.writes
