-- Where intervals end, one after the other. Assumes nothing.
use Rattle.std.proofs.Common.{◌≡◌, ℕ, zero, suc, ◌+◌, ◌-◌, ◌<◌, ◌≤◌, List, length, get_or, sym, ap, ◌∙◌, add-one, arith}
use Rattle.std.proofs.lemmas.List.{get_or-map}
use Rattle.rules.specs.declared.lines.Interval.{Interval}
use Rattle.rules.specs.Tracks.{Track, moved_on, begin_of, end_of}
use Rattle.rules.proofs.Moved.{moved_more}
use Rattle.rows.specs.Drawings.{lengths_of}

pub length_at : (xs : List Interval) (i : ℕ) (d : Interval) → i < length xs → get_or (lengths_of xs) i 0 ≡ (get_or xs i d).length
length_at xs i d l = get_or-map (λ (interval : Interval). interval.length) xs i d 0 l

-- where the interval at hand ends
pub end_here : (start : ℕ) (intervals : List Interval) (i begin metres : ℕ) → i < length intervals → begin ≡ moved_on start (lengths_of intervals) i → metres ≡ get_or (lengths_of intervals) i 0 → begin + metres ≡ moved_on start (lengths_of intervals) (i + 1)
end_here start intervals i begin metres l b m =
    let more = moved_more start (lengths_of intervals) i in
    let next = ap (moved_on start (lengths_of intervals)) (add-one i) in
    omega arith

-- an interval ends its length behind the one before it
pub end_before : (start : ℕ) (xs : List Interval) (j : ℕ) (d : Interval) → 1 ≤ j → j ≤ length xs → moved_on start (lengths_of xs) j ≡ moved_on start (lengths_of xs) (j - 1) + (get_or xs (j - 1) d).length
end_before start xs zero d l m = absurd (omega arith)
end_before start xs (suc j) d l m =
    let here : suc j - 1 ≡ j = omega arith in
    let more = moved_more start (lengths_of xs) j in
    let length = length_at xs j d (omega arith) in
    let back = ap (λ n. moved_on start (lengths_of xs) n + (get_or xs n d).length) here in
    more ∙ ap (λ n. moved_on start (lengths_of xs) j + n) length ∙ sym back

pub begin_back : (track : Track) (j : ℕ) → 1 ≤ j → begin_of track j ≡ end_of track (j - 1)
begin_back track zero l = absurd (omega arith)
begin_back track (suc j) l = ap (end_of track) (let e : j ≡ suc j - 1 = omega arith in e)
