-- The bytes of a record decode to what it says, and only they do. Assumes nothing.
use Rattle.std.proofs.Common.{◌≡◌, ℕ, zero, suc, ◌+◌, ◌-◌, ◌*◌, ◌/◌, ◌%◌, ◌<◌, ◌≤◌, Bool, true, false, cond, ◌&&◌, ◌||◌, eqb, ltb, leb, List, [], ◌∷◌, ◌++◌, length, get_or, take, drop, IfOk, IsTrue, MatchOption, Some, None, Ok, Err, ok_or, Option, Result, sym, refl, ap, ◌∙◌, subst, inl, inr, add-zero, arith, drop-cons, ltb-false, ltb-true, le-ltb, lt-ltb, eq-eqb, ne_eqb, eqb-true, le-leb, leb-true}
use Rattle.std.specs.Result.{result_or}
use Rattle.std.specs.Borrow.{Bor}
use Rattle.std.specs.List.{between}
use Rattle.std.proofs.lemmas.Bool.{and_parts, and_from, and_left, or_from, or_parts, cond-true, cond-false, cases_Bool}
use Rattle.codes.specs.declared.speeds.Speed.{Speed}
use Rattle.codes.specs.declared.speeds.Code.{Code}
use Rattle.codes.specs.declared.gradients.Class.{Class}
use Rattle.codes.specs.Speeds.{kmh, byte, lower, speeds, codes, speed_of, code_of}
use Rattle.codes.specs.Gradients.{number, classes, class_of}
use Rattle.codes.proofs.Numbered.{numbered_is, class_back, speed_back, code_back}
use Rattle.std.proofs.lemmas.List.{length-append, length-drop, length-take-le, get_or-take, get_or-drop, take_at, take-append-drop, drop-drop}
use Rattle.codes.specs.Refusals.{Told, gives, refuses}
use Rattle.codes.specs.declared.speeds.Code.TheVariants.{Go}
use Rattle.laws.specs.Books.{Metres}
use Rattle.laws.specs.Questions.{emergency, service}
use Rattle.laws.specs.Judged.{metres}
use Rattle.codes.specs.declared.refusals.Refusal.{Refusal}
use Rattle.bookrecords.specs.declared.records.Record.{Record}
use Rattle.bookrecords.specs.Reading.{said, Placed, Fronts, told_record}
use Rattle.bookrecords.specs.Records.{Said, states, remarks, content, spelt, Possible, Begins}
use Rattle.bookrecords.specs.Decoding.{number_at, torn, Whole, known, headed, told_further, emergency_entry, service_entry, emergency_said, service_said, remark_said, decoded}

module _ (bytes : List ℕ) where
  -- a record whose length counts 2 bytes or more that are there
  pub whole_from_length : 2 ≤ length bytes → 2 ≤ number_at bytes 0 → number_at bytes 0 ≤ length bytes - 2 → torn bytes ≡ false
  whole_from_length some long there =
      or_from (ltb (length bytes) 2 || ltb (number_at bytes 0) 2) (ltb (length bytes - 2) (number_at bytes 0))
      (or_from (ltb (length bytes) 2) (ltb (number_at bytes 0) 2) (le-ltb _ _ some) (le-ltb _ _ long))
      (le-ltb _ _ there)

  whole_parts : torn bytes ≡ false → (2 ≤ number_at bytes 0) × (2 + number_at bytes 0 ≤ length bytes)
  whole_parts whole =
      let parts = or_parts (ltb (length bytes) 2 || ltb (number_at bytes 0) 2) (ltb (length bytes - 2) (number_at bytes 0)) whole in
      let front = or_parts (ltb (length bytes) 2) (ltb (number_at bytes 0) 2) parts.0 in
      let some = ltb-false _ _ front.0 in let long = ltb-false _ _ front.1 in let there = ltb-false _ _ parts.1 in
      (long, omega arith)

  module _ (whole : torn bytes ≡ false) where
    other_kind : {X : Type 0} (n l : ℕ) (x y : X) → (number_at bytes 2 ≡ n → ⊥) → cond (eqb (number_at bytes 2) n && eqb (number_at bytes 0) l) x y ≡ y
    other_kind n l x y other = cond-false (eqb (number_at bytes 2) n && eqb (number_at bytes 0) l) x y (and_left _ _ (ne_eqb _ _ other))

    pub decoded_emergency : number_at bytes 2 ≡ 1 → number_at bytes 0 ≡ 7 → decoded bytes ≡ emergency_said bytes
    decoded_emergency k l =
        cond-false (torn bytes) _ _ whole
        ∙ cond-true (eqb (number_at bytes 2) 1 && eqb (number_at bytes 0) 7) _ _ (and_from _ _ (eq-eqb _ _ k) (eq-eqb _ _ l))

    pub decoded_service : number_at bytes 2 ≡ 2 → number_at bytes 0 ≡ 6 → decoded bytes ≡ service_said bytes
    decoded_service k l =
        cond-false (torn bytes) _ _ whole ∙ other_kind 1 7 _ _ (λ e. omega arith)
        ∙ cond-true (eqb (number_at bytes 2) 2 && eqb (number_at bytes 0) 6) _ _ (and_from _ _ (eq-eqb _ _ k) (eq-eqb _ _ l))

    pub decoded_remark : number_at bytes 2 ≡ 3 → decoded bytes ≡ remark_said bytes
    decoded_remark k =
        cond-false (torn bytes) _ _ whole ∙ other_kind 1 7 _ _ (λ e. omega arith) ∙ other_kind 2 6 _ _ (λ e. omega arith)
        ∙ cond-true (eqb (number_at bytes 2) 3) _ _ (eq-eqb _ _ k)

  -- a record that is known by its content, byte by byte
  module _ (parts : ℕ × Bor (List ℕ)) (stands : Whole bytes parts) where
    content_length : length parts.1.now ≡ number_at bytes 0 - 2
    content_length =
        let there = whole_parts stands.whole in
        let size = length-take-le (2 + number_at bytes 0 - 4) (drop 4 bytes) (let left = length-drop 4 bytes in omega arith) in
        let same = ap length stands.content in
        omega arith

    content_at : (i : ℕ) → i < length parts.1.now → get_or parts.1.now i 0 ≡ get_or bytes (4 + i) 0
    content_at i l =
        ap (λ xs. get_or xs i 0) stands.content
        ∙ get_or-take (2 + number_at bytes 0 - 4) (drop 4 bytes) i 0 (let size = content_length in omega arith) ∙ get_or-drop 4 bytes i 0

    pub emergency_from_five : parts.0 ≡ 1 → length parts.1.now ≡ 5 → (m : ℕ) → m ≡ number_at parts.1.now 3 → emergency_entry (get_or parts.1.now 0 0) (get_or parts.1.now 1 0) (get_or parts.1.now 2 0) m ≡ decoded bytes
    emergency_from_five kind five m far =
        let there = whole_parts stands.whole in
        let size = content_length in
        let b0 = content_at 0 (omega arith) in
        let b1 = content_at 1 (omega arith) in
        let b2 = content_at 2 (omega arith) in
        let b3 = content_at 3 (omega arith) in
        let b4 = content_at 4 (omega arith) in
        let same : m ≡ number_at bytes 7 = omega arith in
        let said : emergency_entry (get_or parts.1.now 0 0) (get_or parts.1.now 1 0) (get_or parts.1.now 2 0) m ≡ emergency_said bytes = cc in
        said ∙ sym (decoded_emergency stands.whole (sym stands.kind ∙ kind) (omega arith))

    pub service_from_four : parts.0 ≡ 2 → length parts.1.now ≡ 4 → (m : ℕ) → m ≡ number_at parts.1.now 2 → service_entry (get_or parts.1.now 0 0) (get_or parts.1.now 1 0) m ≡ decoded bytes
    service_from_four kind four m far =
        let there = whole_parts stands.whole in
        let size = content_length in
        let b0 = content_at 0 (omega arith) in
        let b1 = content_at 1 (omega arith) in
        let b2 = content_at 2 (omega arith) in
        let b3 = content_at 3 (omega arith) in
        let same : m ≡ number_at bytes 6 = omega arith in
        let said : service_entry (get_or parts.1.now 0 0) (get_or parts.1.now 1 0) m ≡ service_said bytes = cc in
        said ∙ sym (decoded_service stands.whole (sym stands.kind ∙ kind) (omega arith))

  -- the parts that were found
  pub whole_found : (found : Option (ℕ × Bor (List ℕ))) → MatchOption found (IsTrue (torn bytes)) (Whole bytes) → (parts : ℕ × Bor (List ℕ)) → found ≡ Some parts → Whole bytes parts
  whole_found found whole parts is = let there : MatchOption (Some parts) (IsTrue (torn bytes)) (Whole bytes) = subst (λ o. MatchOption o (IsTrue (torn bytes)) (Whole bytes)) is whole in there

-- ---- an entry whose parts are known

-- what stands where a refusal was put in the place of another
pub chosen : {X : Type 0} (why other : Refusal) (o : Option X) (r : Result X Refusal) → r ≡ ok_or o why → (x : X) → Ok x ≡ result_or r (Err other) → o ≡ Some x
chosen {X} why other None r e x is = let said : ◌≡◌ {A = Result X Refusal} (Ok x) (Err other) = is ∙ ap (λ s. result_or s (Err other)) e in cc
chosen {X} why other (Some y) r e x is = let said : ◌≡◌ {A = Result X Refusal} (Ok x) (Ok y) = is ∙ ap (λ s. result_or s (Err other)) e in cc

pub emergency_known : (class from to m : ℕ) (r : Result (Class × Speed) Refusal) → ((f : Class → Speed → Told Said) → headed class from f ≡ told_further f r) → (k : Class) (v : Speed) (w : Code) → r ≡ Ok (k, v) → code_of to ≡ Some w → emergency_entry class from to m ≡ cond (lower w (Go v) && metres m) (gives (states (emergency k v w) m)) (refuses (17, []))
emergency_known class from to m r head k v w is code =
    let further : Class → Speed → Told Said = λ j u. known (code_of to) (λ d. cond (lower d (Go u) && metres m) (gives (states (emergency j u d) m)) (refuses (17, []))) in
    head further ∙ ap (told_further further) is ∙ ap (λ o. known o (λ d. cond (lower d (Go v) && metres m) (gives (states (emergency k v d) m)) (refuses (17, [])))) code

-- ---- numbers, speeds, codes and classes, there and back

word_back : (n : ℕ) → n % 256 + 256 * (n / 256) ≡ n
word_back n = omega arith

word_low : (a b : ℕ) → a < 256 → (a + 256 * b) % 256 ≡ a
word_low a b l = omega arith

word_high : (a b : ℕ) → a < 256 → (a + 256 * b) / 256 ≡ b
word_high a b l = omega arith

-- ---- what is spelt decodes

all_known : {X : Type 0} (o : Option X) (x : X) (f : X → Told Said) → o ≡ Some x → known o f ≡ f x
all_known o x f e = ap (λ p. known p f) e

metres_pass : (m : ℕ) → Metres m → metres m ≡ true
metres_pass m within = and_from (leb 1 m) (leb m 4095) (le-leb 1 m within.0) (le-leb m 4095 within.1)

pub decoded_spelt : (s : Said) → Possible s → (t : List ℕ) → decoded (spelt s ++ t) ≡ gives s
decoded_spelt (states (emergency k from to) m) (below, within) t =
    let bytes = spelt (states (emergency k from to) m) ++ t in
    let whole : torn bytes ≡ false = whole_from_length bytes (omega arith) (omega arith) (omega arith) in
    let far : number_at bytes 7 ≡ m = word_back m in
    decoded_emergency bytes whole refl refl
    ∙ all_known (class_of (number k)) k _ (class_back k)
    ∙ all_known (speed_of (kmh from)) from _ (speed_back from)
    ∙ all_known (code_of (byte to)) to _ (code_back to)
    ∙ cond-true (lower to (Go from) && metres (number_at bytes 7)) _ _
    (and_from (lower to (Go from)) (metres (number_at bytes 7)) (lt-ltb _ _ below) (ap metres far ∙ metres_pass m within))
    ∙ ap (λ n. gives (states (emergency k from to) n)) far
decoded_spelt (states (service k from) m) (asks, within) t =
    let bytes = spelt (states (service k from) m) ++ t in
    let whole : torn bytes ≡ false = whole_from_length bytes (omega arith) (omega arith) (omega arith) in
    let far : number_at bytes 6 ≡ m = word_back m in
    decoded_service bytes whole refl refl
    ∙ all_known (class_of (number k)) k _ (class_back k)
    ∙ all_known (speed_of (kmh from)) from _ (speed_back from)
    ∙ cond-true (metres (number_at bytes 6)) _ _ (ap metres far ∙ metres_pass m within)
    ∙ ap (λ n. gives (states (service k from) n)) far
decoded_spelt (remarks content) short t =
    let bytes = spelt (remarks content) ++ t in
    let far : number_at bytes 0 ≡ 2 + length content = word_back (2 + length content) in
    let count = length-append content t in
    let whole : torn bytes ≡ false = whole_from_length bytes (omega arith) (omega arith) (omega arith) in
    let size : 2 + number_at bytes 0 - 4 ≡ length content = omega arith in
    decoded_remark bytes whole refl
    ∙ ap (λ n. gives (remarks (take n (content ++ t)))) size
    ∙ ap (λ l. gives (remarks l)) (take_at content t (length content) refl)

-- ---- what decodes is spelt

given_not_refused : (s : Said) (p : ℕ × List ℕ) → refuses p ≡ gives s → ⊥
given_not_refused s p e = let z : ◌≡◌ {A = ℕ} 0 1 = cc in omega arith

when_known : {X : Type 0} (o : Option X) (f : X → Told Said) (s : Said) → known o f ≡ gives s → (x : X) × ((o ≡ Some x) × (f x ≡ gives s))
when_known None f s e = absurd (given_not_refused s (17, []) e)
when_known (Some x) f s e = (x, (refl, e))

when_passed : (b : Bool) (a s : Said) → cond b (gives a) (refuses (17, [])) ≡ gives s → (b ≡ true) × (a ≡ s)
when_passed true a s e = (refl, cc)
when_passed false a s e = absurd (given_not_refused s (17, []) e)

-- the first n from place i on, one by one
abbrev firsts : ℕ → ℕ → List ℕ → List ℕ
firsts zero i xs = []
firsts (suc n) i xs = get_or xs i 0 ∷ firsts n (suc i) xs

firsts_drop : (n i : ℕ) (xs : List ℕ) → i + n ≤ length xs → drop i xs ≡ firsts n i xs ++ drop (i + n) xs
firsts_drop zero i xs l = ap (λ k. drop k xs) (sym (add-zero i))
firsts_drop (suc n) i xs l =
    drop-cons xs i 0 (omega arith)
    ∙ ap (λ ys. get_or xs i 0 ∷ ys) (firsts_drop n (suc i) xs (omega arith) ∙ ap (λ k. firsts n (suc i) xs ++ drop k xs) (let e : suc i + n ≡ i + suc n = omega arith in e))

metres_within : (m : ℕ) → metres m ≡ true → Metres m
metres_within m passes = let parts = and_parts (leb 1 m) (leb m 4095) passes in (leb-true 1 m parts.0, leb-true m 4095 parts.1)

module _ (bytes : List ℕ) (fit : (i : ℕ) → get_or bytes i 0 < 256) where
  emergency_spells : (k : Class) (from : Speed) (to : Code) → 9 ≤ length bytes → number_at bytes 0 ≡ 7 → number_at bytes 2 ≡ 1 → number k ≡ get_or bytes 4 0 → kmh from ≡ get_or bytes 5 0 → byte to ≡ get_or bytes 6 0 → bytes ≡ spelt (states (emergency k from to) (number_at bytes 7)) ++ drop 9 bytes
  emergency_spells k from to long size kind b4 b5 b6 =
      let front = firsts_drop 9 0 bytes long in
      let b0 : get_or bytes 0 0 ≡ 7 = omega arith in
      let b1 : get_or bytes 1 0 ≡ 0 = omega arith in
      let b2 : get_or bytes 2 0 ≡ 1 = omega arith in
      let b3 : get_or bytes 3 0 ≡ 0 = omega arith in
      let b7 = word_low (get_or bytes 7 0) (get_or bytes 8 0) (fit 7) in
      let b8 = word_high (get_or bytes 7 0) (get_or bytes 8 0) (fit 7) in
      cc

  service_spells : (k : Class) (from : Speed) → 8 ≤ length bytes → number_at bytes 0 ≡ 6 → number_at bytes 2 ≡ 2 → number k ≡ get_or bytes 4 0 → kmh from ≡ get_or bytes 5 0 → bytes ≡ spelt (states (service k from) (number_at bytes 6)) ++ drop 8 bytes
  service_spells k from long size kind b4 b5 =
      let front = firsts_drop 8 0 bytes long in
      let b0 : get_or bytes 0 0 ≡ 6 = omega arith in
      let b1 : get_or bytes 1 0 ≡ 0 = omega arith in
      let b2 : get_or bytes 2 0 ≡ 2 = omega arith in
      let b3 : get_or bytes 3 0 ≡ 0 = omega arith in
      let b6 = word_low (get_or bytes 6 0) (get_or bytes 7 0) (fit 6) in
      let b7 = word_high (get_or bytes 6 0) (get_or bytes 7 0) (fit 6) in
      cc

  remark_spells : (n : ℕ) → 4 + n ≤ length bytes → number_at bytes 0 ≡ 2 + n → number_at bytes 2 ≡ 3 → bytes ≡ spelt (remarks (take n (drop 4 bytes))) ++ drop (4 + n) bytes
  remark_spells n long size kind =
      let front = firsts_drop 4 0 bytes (omega arith) in
      let count : length (take n (drop 4 bytes)) ≡ n = length-take-le n (drop 4 bytes) (let d = length-drop 4 bytes in omega arith) in
      let parts = take-append-drop n (drop 4 bytes) in
      let rest = drop-drop n 4 bytes in
      let b0 : get_or bytes 0 0 ≡ (2 + length (take n (drop 4 bytes))) % 256 = let w = fit 0 in omega arith in
      let b1 : get_or bytes 1 0 ≡ (2 + length (take n (drop 4 bytes))) / 256 = let w = fit 0 in omega arith in
      let b2 : get_or bytes 2 0 ≡ 3 = omega arith in
      let b3 : get_or bytes 3 0 ≡ 0 = omega arith in
      cc

  module _ (s : Said) where
    emergency_begins : 9 ≤ length bytes → number_at bytes 0 ≡ 7 → number_at bytes 2 ≡ 1 → emergency_said bytes ≡ gives s → Begins bytes s
    emergency_begins long size kind e =
        let class = when_known (class_of (get_or bytes 4 0)) _ s e in
        let from = when_known (speed_of (get_or bytes 5 0)) _ s class.1.1 in
        let to = when_known (code_of (get_or bytes 6 0)) _ s from.1.1 in
        let said = when_passed (lower to.0 (Go from.0) && metres (number_at bytes 7)) (states (emergency class.0 from.0 to.0) (number_at bytes 7)) s to.1.1 in
        let tests = and_parts (lower to.0 (Go from.0)) (metres (number_at bytes 7)) said.0 in
        subst (Begins bytes) said.1 (record {
          possible = (ltb-true _ _ tests.0, metres_within (number_at bytes 7) tests.1);
          spells = emergency_spells class.0 from.0 to.0 long size kind
              (numbered_is number (get_or bytes 4 0) classes class.0 class.1.0)
              (numbered_is kmh (get_or bytes 5 0) speeds from.0 from.1.0)
              (numbered_is byte (get_or bytes 6 0) codes to.0 to.1.0);
        })

    service_begins : 8 ≤ length bytes → number_at bytes 0 ≡ 6 → number_at bytes 2 ≡ 2 → service_said bytes ≡ gives s → Begins bytes s
    service_begins long size kind e =
        let class = when_known (class_of (get_or bytes 4 0)) _ s e in
        let from = when_known (speed_of (get_or bytes 5 0)) _ s class.1.1 in
        let said = when_passed (metres (number_at bytes 6)) (states (service class.0 from.0) (number_at bytes 6)) s from.1.1 in
        subst (Begins bytes) said.1 (record {
          possible = (tt, metres_within (number_at bytes 6) said.0);
          spells = service_spells class.0 from.0 long size kind
              (numbered_is number (get_or bytes 4 0) classes class.0 class.1.0)
              (numbered_is kmh (get_or bytes 5 0) speeds from.0 from.1.0);
        })

    remark_begins : 2 ≤ number_at bytes 0 → 2 + number_at bytes 0 ≤ length bytes → number_at bytes 2 ≡ 3 → remark_said bytes ≡ gives s → Begins bytes s
    remark_begins some long kind e =
        let content = between 4 (2 + number_at bytes 0) bytes in
        let said : remarks content ≡ s = cc in
        let count : length content ≡ 2 + number_at bytes 0 - 4 = length-take-le (2 + number_at bytes 0 - 4) (drop 4 bytes) (let d = length-drop 4 bytes in omega arith) in
        let size : 4 + (2 + number_at bytes 0 - 4) ≡ length (spelt (remarks content)) = omega arith in
        subst (Begins bytes) said (record {
          possible = let low = fit 0 in let high = fit 1 in omega arith;
          spells = remark_spells (2 + number_at bytes 0 - 4) (omega arith) (omega arith) kind ∙ ap (λ n. spelt (remarks content) ++ drop n bytes) size;
        })

    kind_begins : torn bytes ≡ false → decoded bytes ≡ gives s → Begins bytes s
    kind_begins whole e =
        let there = whole_parts bytes whole in
        let at-kind = sym (cond-false (torn bytes) _ _ whole) ∙ e in
        elim (cases_Bool (eqb (number_at bytes 2) 1 && eqb (number_at bytes 0) 7)) [
          | inl one ↦
              let tests = and_parts (eqb (number_at bytes 2) 1) (eqb (number_at bytes 0) 7) one in
              let kind = eqb-true _ _ tests.0 in let size = eqb-true _ _ tests.1 in
              emergency_begins (omega arith) size kind (sym (cond-true _ _ _ one) ∙ at-kind)
          | inr not-one ↦
              let past_one = sym (cond-false _ _ _ not-one) ∙ at-kind in
              elim (cases_Bool (eqb (number_at bytes 2) 2 && eqb (number_at bytes 0) 6)) [
                | inl two ↦
                    let tests = and_parts (eqb (number_at bytes 2) 2) (eqb (number_at bytes 0) 6) two in
                    let kind = eqb-true _ _ tests.0 in let size = eqb-true _ _ tests.1 in
                    service_begins (omega arith) size kind (sym (cond-true _ _ _ two) ∙ past_one)
                | inr not-two ↦
                    let past_two = sym (cond-false _ _ _ not-two) ∙ past_one in
                    elim (cases_Bool (eqb (number_at bytes 2) 3)) [
                      | inl three ↦ remark_begins there.0 there.1 (eqb-true _ _ three) (sym (cond-true _ _ _ three) ∙ past_two)
                      | inr not_three ↦ absurd (given_not_refused s (16, []) (sym (cond-false _ _ _ not_three) ∙ past_two))
                    ]
              ]
        ]

    -- the bytes that decode begin with the record that says it
    pub decoded_begins : decoded bytes ≡ gives s → Begins bytes s
    decoded_begins e =
        elim (cases_Bool (torn bytes)) [
          | inl tear ↦ absurd (given_not_refused s (15, []) (sym (cond-true (torn bytes) _ _ tear) ∙ e))
          | inr whole ↦ kind_begins whole e
        ]

-- what is told of the record at the front, and where its remark begins
pub fronts_from_told : (bytes : List ℕ) → ((i : ℕ) → get_or bytes i 0 < 256) → (start : ℕ) (r : Result Record Refusal) → told_record r ≡ decoded bytes → IfOk r (Placed start) → Fronts bytes start r
fronts_from_told bytes fit start (Ok item) e placed = record { says = sym e; begins = decoded_begins bytes fit (said item) (sym e); placed = placed }
fronts_from_told bytes fit start (Err w) e placed = sym e

-- a record stands within the file
pub begins_within : (file : List ℕ) (p : ℕ) (s : Said) → p ≤ length file → Begins (drop p file) s → p + length (spelt s) ≤ length file
begins_within file p s within begins =
    let rest = drop (length (spelt s)) (drop p file) in
    let left = length-drop p file in
    let parts = length-append (spelt s) rest in
    let whole = ap length begins.spells in
    omega arith

pub within_from_fronts : (file : List ℕ) (p : ℕ) → p ≤ length file → (r : Result Record Refusal) → Fronts (drop p file) p r → IfOk r (λ item. p + length (spelt (said item)) ≤ length file)
within_from_fronts file p within (Ok item) front = begins_within file p (said item) within front.begins
within_from_fronts file p within (Err w) told = tt
