-- Where a replay starts, and a record done, by what the card gave.
use Rattle.std.specs.Prelude.{◌≡◌, refl, false, Result, Ok, Err, IsOk, List, [], ℕ, ◌+◌}
use Rattle.std.proofs.Common.{ap, arith}
use Rattle.model.specs.State.{NewCard, fresh_card}
use Rattle.model.specs.Accesses as words
use Rattle.model.specs.Accesses.{access}
use Rattle.model.specs.Bench.{replay_settings, bench}
use Rattle.model.specs.Trace.{next_number}
use Rattle.model.specs.Replay as model
use Rattle.access.specs.declared.Access.{Access}
use Rattle.access.specs.Bridge.{access_as, answer_as}
use Rattle.card.specs.declared.Card.{Card}
use Rattle.card.specs.declared.Unfit.{Unfit}
use Rattle.card.specs.declared.Outcome.{Outcome}
use Rattle.card.specs.Bridge.{state_as, new_card_as, world_as, outcome_as}
use Rattle.zeroed.specs.Bridge.{zeros}
use Rattle.standing.specs.declared.Standing.{Standing}
use Rattle.standing.specs.declared.Performed.{Performed}
use Rattle.standing.specs.Bridge.{standing_as, performed, performed_as}

-- the replay's settings pass
pub settings_fit : (r : Result Card Unfit) → new_card_as r ≡ fresh_card replay_settings → IsOk r
unfolding fresh_card
settings_fit (Ok card) e = refl
settings_fit (Err unfit) e = absurd (omega (arith, ap (λ (m : NewCard). m.number) e))

-- the fresh card of the replay's settings, between zeroed memories
pub at_start : {n : ℕ} (card : Card) → record { number = n; card = state_as card } ≡ fresh_card replay_settings →
    standing_as (record { card = card; expected = 0; count = 0; stopped = false }) (zeros 16384) (zeros 32768) ≡ model.replay_start
unfolding zeros bench
at_start card e = ap (λ (m : NewCard). record { world = record { card = m.card; shared = zeros 16384; window = zeros 32768 }; expected = 0; count = 0; stopped = false }) e

pub moved_on_lem : (s : Standing) (q : Access) (o : Outcome) (m w m' w' : List ℕ) (n : ℕ) → outcome_as o m' w' ≡ access (world_as s.card m w) (access_as q) → n ≡ next_number s.expected →
    record { answer = answer_as o.answer; standing = record { world = world_as o.card m' w'; expected = n; count = s.count + 1; stopped = s.stopped } }
    ≡ performed (standing_as s m w) (access_as q)
moved_on_lem s q o m w m' w' n e h = rw (← e, h)

-- the parts of it that are the code's own
pub counted : (p : Performed) (s : Standing) (m w m' w' : List ℕ) (q : words.Access) → performed_as p m' w' ≡ performed (standing_as s m w) q →
    (p.standing.count ≡ s.count + 1) × (p.standing.stopped ≡ s.stopped)
counted p s m w m' w' q e = (ap (λ r. r.standing.count) e, ap (λ r. r.standing.stopped) e)

pub stop_counted : (r s : Standing) → ((m w : List ℕ) → standing_as r m w ≡ model.stop (standing_as s m w)) → r.count ≡ s.count
stop_counted r s e = ap (λ s. s.count) (e [] [])
