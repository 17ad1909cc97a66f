-- Bytes moved to the start of a buffer, and bytes that stay while others are read behind them; and how a program goes on, by how a chunk went.
use Rattle.std.specs.Prelude.{◌≡◌, refl, ◌⊎◌, Bool, true, false, not, ◌&&◌, ◌||◌, List, ◌++◌, ℕ, ◌+◌, ◌-◌, ◌<◌, ◌≤◌, length, take, drop, eqb}
use Rattle.std.proofs.Common.{sym, ap, ◌∙◌, inl, inr, arith, length-drop, take-append-drop, length-take-le, take-take}
use Rattle.std.proofs.lemmas.List.{take-append-le, drop-take}
use Rattle.std.specs.List.{copy_within}
use Rattle.std.proofs.lemmas.Bool.{eqb-false, not-true}
use Rattle.model.proofs.TestLaws.{and_left, and_right, or_left, or_right, no_both}
use Rattle.stream.specs.declared.Chunk.{Chunk}
use Rattle.stream.specs.declared.Turn.{Turn}
use Rattle.stream.specs.Bridge.{Keeps, chunk_bytes, goes_on, broke_off, Behind}

-- THE CARRY

pub kept_is : (before after : List ℕ) (at size : ℕ) → at ≤ size → size ≤ length before → after ≡ copy_within before at size 0 → Keeps before at size (size - at) after
kept_is before after at size h l e =
    let n = size - at in
    let sum : at + n ≡ size = omega arith in
    let moved = take n (drop at before) in
    let long : n ≤ length moved = omega (arith, length-take-le n (drop at before) (omega (arith, length-drop at before))) in
    record { count = refl; bytes = rw e (take-append-le n moved _ long ∙ take-take n n (drop at before) (omega arith) ∙ sym (rw sum at (drop-take at n before))) }

-- BYTES THAT STAY

pub stay : (l rest : List ℕ) (kept size : ℕ) → kept ≤ size → size ≤ length l → take kept (take size l ++ rest) ≡ take kept l
stay l rest kept size h g = take-append-le kept (take size l) rest (omega (arith, length-take-le size l g)) ∙ take-take kept size l h

-- what was left of the last chunk stands at the start of this one
pub kept_front : (left kept input : List ℕ) (n size : ℕ) → left ≡ take n kept → n ≤ length kept → n ≤ size → take n input ≡ take n kept →
    take size input ≡ left ++ drop (length left) (take size input)
kept_front left kept input n size e h l s =
    let long : length left ≡ n = ap length e ∙ length-take-le n kept h in
    let front : take n (take size input) ≡ left = take-take n size input l ∙ s ∙ sym e in
    sym (take-append-drop n (take size input)) ∙ rw (front, long)

-- HOW A PROGRAM GOES ON

-- a chunk behind which more is read was full, nothing of it was refused, and no read failed
pub more_is : (chunk : Chunk) (stopped lost : Bool) → goes_on chunk stopped lost ≡ true →
    (eqb chunk.size chunk_bytes ≡ true) × (stopped ≡ false) × (chunk.cut ≡ false)
more_is chunk stopped lost h =
    let full = eqb chunk.size chunk_bytes in
    let read = and_left (full && not stopped && not chunk.cut) (not lost) h in
    let going = and_left (full && not stopped) (not chunk.cut) read in (
      and_left full (not stopped) going,
      not-true stopped (and_right full (not stopped) going),
      not-true chunk.cut (and_right (full && not stopped) (not chunk.cut) read),
    )

-- where nothing broke off, the last chunk was short, or something was refused
why : (full stopped cut lost more : Bool) → more ≡ (full && not stopped && not cut && not lost) → (lost || more || cut) ≡ false → (full ≡ false) ⊎ (stopped ≡ true)
why false stopped cut lost more e h = inl refl
why true true cut lost more e h = inr refl
why true false cut lost more e h =
    let some = or_left (lost || more) cut h in
    no_both (sym (or_right lost more some) ∙ (rw (or_right (lost || more) cut h, or_left lost more some) at e))

pub end_is : (chunk : Chunk) (stopped lost more : Bool) → chunk.size ≤ chunk_bytes → more ≡ goes_on chunk stopped lost → broke_off chunk lost more ≡ false →
    (chunk.size < chunk_bytes) ⊎ (stopped ≡ true)
end_is chunk stopped lost more l e h = by (why (eqb chunk.size chunk_bytes) stopped chunk.cut lost more e h)
  where
    by : (eqb chunk.size chunk_bytes ≡ false) ⊎ (stopped ≡ true) → (chunk.size < chunk_bytes) ⊎ (stopped ≡ true)
    by (inl f) = inl (omega (arith, eqb-false chunk.size chunk_bytes f))
    by (inr s) = inr s

-- A LOOP OVER THE CHUNKS, of which at most so many are read

pub none_behind : {W On Last : Type 0} (turn : Turn W) → turn.more ≡ true → On → Behind 0 turn On Last
none_behind turn m on = record { on = λ _. on; first = λ _. m; last = λ z. absurd (z refl) }

pub one_behind : {W On Last : Type 0} (k : ℕ) (turn : Turn W) → (turn.more ≡ true → On) → Last → Behind (k + 1) turn On Last
one_behind k turn on last = record { on = on; first = λ z. absurd (omega arith); last = λ _. last }

-- where it ends early, there is a last chunk
pub ended_early : {W On Last : Type 0} {k : ℕ} {turn : Turn W} → Behind k turn On Last → turn.more ≡ false → Last
ended_early b m = b.last (λ z. no_both (sym m ∙ b.first z))
