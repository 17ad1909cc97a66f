-- Rule 1: every access gets the smallest number whose cause holds, and a refusal answers two zeros and leaves the world as it was.
-- Each row's numbers ascend, so the law of a row of checks gives it. L10 amends this for bursts (`BurstLaws`): their numbered checks follow an order
-- of their own, and 13 keeps its V and what was done.
use Rattle.std.specs.Prelude.{◌≡◌, refl, ◌≢◌, ◌↔◌, ℕ, zero, suc, ◌≤◌, ◌<◌}
use Rattle.std.proofs.Common.{ap, ◌∙◌, arith, lit≤, lit<}
use Rattle.model.specs.Checks.{refusal, Holds, Smallest}
use Rattle.model.specs.Sides.{Side, side_of}
use Rattle.model.specs.State.{World}
use Rattle.model.specs.Changes.{Effect}
use Rattle.model.specs.Accesses.{Access, Kind, kind_of, row, row_of, checks, settled, access}
use Rattle.model.proofs.CheckLaws.{Ascending, smallest, Pass, passed}

pub row_ascending : (k : Kind) (w : World) (side : Side) (s a b c : ℕ) → Ascending 2 (row k w side s a b c).checks
row_ascending Kind.reset w side s a b c = (lit≤ tt, tt)
row_ascending Kind.shared_read w side s a b c = (lit≤ tt, (lit≤ tt, (lit≤ tt, tt)))
row_ascending Kind.shared_write w side s a b c = (lit≤ tt, (lit≤ tt, (lit≤ tt, tt)))
row_ascending Kind.window_read w side s a b c = (lit≤ tt, (lit≤ tt, (lit≤ tt, (lit≤ tt, tt))))
row_ascending Kind.window_write w side s a b c = (lit≤ tt, (lit≤ tt, (lit≤ tt, (lit≤ tt, tt))))
row_ascending Kind.take w side s a b c = (lit≤ tt, (lit≤ tt, (lit≤ tt, tt)))
row_ascending Kind.put w side s a b c = (lit≤ tt, (lit≤ tt, (lit≤ tt, tt)))
row_ascending Kind.claim w side s a b c = (lit≤ tt, (lit≤ tt, tt))
row_ascending Kind.release w side s a b c = (lit≤ tt, (lit≤ tt, tt))
row_ascending Kind.mailbox_write w side s a b c = (lit≤ tt, tt)
row_ascending Kind.mailbox_read w side s a b c = (lit≤ tt, tt)
row_ascending Kind.interrupt_read w side s a b c = (lit≤ tt, tt)
row_ascending Kind.interrupt_write w side s a b c = (lit≤ tt, tt)
row_ascending Kind.line w side s a b c = (lit≤ tt, tt)
row_ascending Kind.start w side s a b c = (lit≤ tt, (lit≤ tt, (lit≤ tt, (lit≤ tt, (lit≤ tt, tt)))))
row_ascending Kind.step w side s a b c = (lit≤ tt, (lit≤ tt, tt))
row_ascending Kind.external_pin w side s a b c = (lit≤ tt, (lit≤ tt, tt))
row_ascending Kind.unknown w side s a b c = tt

ascending : (w : World) (q : Access) → Ascending 1 (checks w q)
ascending w q = (lit≤ tt, (lit≤ tt, row_ascending (kind_of q.kind) w (side_of q.side) q.s q.a q.b q.c))

-- THE NUMBER

pub settled_number : (n : ℕ) (e : Effect) (w : World) → (settled n e w).answer.number ≡ n
settled_number zero e w = refl
settled_number (suc n) e w = refl

pub number_is : (w : World) (q : Access) → (access w q).answer.number ≡ refusal (checks w q)
unfolding access
number_is w q = settled_number (refusal (checks w q)) (row_of (kind_of q.kind) w q).effect w

pub number_smallest : (w : World) (q : Access) → Smallest (access w q).answer.number (checks w q)
number_smallest w q = rw (number_is w q) (smallest 1 (lit< tt) (checks w q) (ascending w q))

-- "each is given if and only if its cause holds and no smaller one does"
pub given_iff : (w : World) (q : Access) (n : ℕ) → 0 < n →
    ((access w q).answer.number ≡ n) ↔ (Holds n (checks w q) × ((m : ℕ) → Holds m (checks w q) → n ≤ m))
given_iff w q n z = (forth (access w q).answer.number (number_smallest w q), back (access w q).answer.number (number_smallest w q))
  where
    forth : (k : ℕ) → Smallest k (checks w q) → k ≡ n → Holds n (checks w q) × ((m : ℕ) → Holds m (checks w q) → n ≤ m)
    forth k s e = (rw e at (s.holds (omega arith)), λ m h. let l = (s.least m h).1 in omega arith)

    back : (k : ℕ) → Smallest k (checks w q) → Holds n (checks w q) × ((m : ℕ) → Holds m (checks w q) → n ≤ m) → k ≡ n
    back k s p =
        let a = s.least n p.0 in
        let l = a.1 in
        let g = p.1 k (s.holds a.0) in
        omega arith

-- DONE AND REFUSED

-- an access that is done passed every check, and does what its row says
pub checks_passed : (w : World) (q : Access) → refusal (checks w q) ≡ 0 → Pass (checks w q)
checks_passed w q h = passed 1 (lit< tt) (checks w q) (ascending w q) h

pub done_is : (w : World) (q : Access) → refusal (checks w q) ≡ 0 →
    access w q ≡ settled 0 (row_of (kind_of q.kind) w q).effect w
unfolding access
done_is w q h = ap (λ n. settled n (row_of (kind_of q.kind) w q).effect w) h

-- "A refusal answers two zeros and changes no register and no byte of either memory."
pub refused_is : (w : World) (q : Access) (n : ℕ) → refusal (checks w q) ≡ suc n →
    access w q ≡ record { answer = record { number = suc n; v = 0; x = 0 }; world = w }
unfolding access
refused_is w q n h = ap (λ n. settled n (row_of (kind_of q.kind) w q).effect w) h

pub refusal_changes_nothing : (w : World) (q : Access) → (access w q).answer.number ≢ 0 →
    access w q ≡ record { answer = record { number = refusal (checks w q); v = 0; x = 0 }; world = w }
refusal_changes_nothing w q h = by (refusal (checks w q)) refl
  where
    by : (n : ℕ) → refusal (checks w q) ≡ n → access w q ≡ record { answer = record { number = n; v = 0; x = 0 }; world = w }
    by zero e = absurd (h (number_is w q ∙ e))
    by (suc n) e = refused_is w q n e
