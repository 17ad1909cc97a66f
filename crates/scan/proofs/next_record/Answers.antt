-- Before the first record none stands, by its place from `at` on; behind the last place with room for one, none does.
use Rattle.std.proofs.Common.{◌≡◌, refl, Bool, true, false, List, ℕ, ◌+◌, ◌-◌, ◌≤◌, ◌<◌, length, drop, length-drop, drop-drop, nat_lt, arith, ltb-true, ltb-false}
use Rattle.model.proofs.LaneLaws.{from_place}
use Rattle.model.specs.Rescue.{stands}
use Rattle.scan.specs.Bridge.{Whole}
use Rattle.scan.specs.Laws.{passed, no_room}
use Rattle.scan.proofs.next_record.Goals as goal

-- none stands at a place before one that is `found` from `at` on
none : (bytes : List ℕ) {at found : ℕ} → ((place : ℕ) → place < found → stands (drop place (drop at bytes)) ≡ false) → (place : ℕ) → at ≤ place → place - at < found → stands (drop place bytes) ≡ false
none bytes {at} before place h g =
    let here : at + (place - at) ≡ place = omega arith in
    rw (drop-drop (place - at) at bytes, here) at (before (place - at) g)

-- where there is none: at the others it has no room
nowhere : (bytes : List ℕ) {at to whole : ℕ} → Whole (length bytes - at) (to - at) whole → ((place : ℕ) → place < whole → stands (drop place (drop at bytes)) ≡ false) → to ≤ length bytes
    → (place : ℕ) → at ≤ place → place < to → stands (drop place bytes) ≡ false
nowhere bytes {at} {to} {whole} w before m place h g = by (nat_lt (place - at) whole) refl
  where
    by : (near : Bool) → nat_lt (place - at) whole ≡ near → stands (drop place bytes) ≡ false
    by true e = none bytes before place h (ltb-true (place - at) whole e)
    by false e =
        let far = w.others (place - at) (ltb-false (place - at) whole e) (omega arith) in
        no_room (drop place bytes) (omega (arith, far, length-drop place bytes))

pub returns-in-Some : goal.returns-in-Some
returns-in-Some c =
    let a = c.args in
    let found = c.in-Some.place in
    let first = rw (from_place a.bytes.now a.at) at c.in-Some.ensures in
    let inside : a.at + found ≤ a.to = omega (arith, c.whole_places-whole.ensures.within, first.0) in
    record {
      within = (omega arith, inside);
      passed = passed a.bytes.now a.at a.to (a.at + found) (omega arith) inside c.requires.1 (λ place h g. none a.bytes.now first.2 place h (omega arith));
      found = λ g. rw (drop-drop found a.at a.bytes.now) at first.1;
    }

pub returns-in-None : goal.returns-in-None
returns-in-None c =
    let a = c.args in
    let before = rw (from_place a.bytes.now a.at) at c.in-None.ensures in
    record {
      within = (c.requires.0, omega arith);
      passed = passed a.bytes.now a.at a.to a.to c.requires.0 (omega arith) c.requires.1 (nowhere a.bytes.now c.whole_places-whole.ensures before c.requires.1);
      found = λ g. absurd (omega arith);
    }
