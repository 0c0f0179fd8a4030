-- Numbers drawn by a linear congruential generator. Assumes nothing.
--     next_state s      the state after s
--     draw_below s n    the number below n that is drawn in state s; 0 where n is 0
use Rattle.std.specs.Prelude.{ℕ, ◌+◌, ◌*◌, ◌/◌, ◌%◌, max}

abbrev pub next_state : ℕ → ℕ
next_state s = (s * 1664525 + 1013904223) % 4294967296

-- the low bits of a state repeat soon, so they are left out
abbrev pub draw_below : ℕ → ℕ → ℕ
draw_below s n = s / 256 % max n 1
