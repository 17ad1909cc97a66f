-- A list of calls of `device::access`, of `registers::register_access` and of `bursts::write` and `bursts::read`, each given the card and the
-- memories that the one before left, gets the answers of the definition's run. So what is shown of runs, rule 3 among it, holds of the calls. By
-- induction over the calls, from the promise of one.
use Rattle.std.specs.Prelude.{◌≡◌, refl, List, [], ◌∷◌, map, ℕ, Ok, Err, Result}
use Rattle.std.proofs.Common.{ap, sym, ◌∙◌}
use Rattle.model.specs.State.{World, fresh_card, fresh_world}
use Rattle.model.specs.Runs.{Entry, run}
use Rattle.model.specs.Accesses.{Answer, access}
use Rattle.model.specs.Accesses as accesses
use Rattle.model.specs.Registers.{RegisterAccess}
use Rattle.model.specs.Bursts.{Burst, singles, Told, total, burst}
use Rattle.model.proofs.BurstLaws.{burst_refusal}
use Rattle.model.specs.Calls.{Call, direct, register, bursting, plain, call}
use Rattle.access.specs.declared.Access.{Access}
use Rattle.access.specs.Bridge.{access_as, answer_as}
use Rattle.settings.specs.declared.Settings.{Settings}
use Rattle.settings.specs.Bridge.{settings_as}
use Rattle.card.specs.declared.Card.{Card}
use Rattle.card.specs.declared.Unfit.{Unfit}
use Rattle.card.specs.declared.Outcome.{Outcome}
use Rattle.card.specs.Bridge.{state_as, new_card_as, world_as}
use Rattle.device.specs.Bridge.{Accessed}
use Rattle.registers.specs.Bridge.{RegisterAccessed}
use Rattle.phases.specs.declared.Stop.{Stop}
use Rattle.phases.specs.Bridge.{told_as}
use Rattle.bursts.specs.Bridge.{Bursted}
use Rattle.reordering.specs.Roles.{roles, moved, Undisturbed}
use Rattle.reordering.specs.CallReordering.{Reply, noted, noted_action, quiet_call, flat}
use Rattle.reordering.proofs.CallExchange.{calls_move}
use Rattle.reordering.proofs.Flattening.{flat_calls_move}

-- what a caller asked, and what he was told
abbrev pub Asked : Type 0
Asked = Entry Call Told

-- `Accessed` is the promise of `device::access`, `RegisterAccessed` that of `registers::register_access`: from a card and two memories to an
-- outcome and what the memories hold then. `Bursted` is that of `bursts::write` and `bursts::read`, which leave the card and the window.
pub data Chain : Card → (shared window : List ℕ) → List Asked → Card → (shared window : List ℕ) → Type 0 where
  ended : {c : Card} {m w : List ℕ} → Chain c m w [] c m w
  accessed : {c d : Card} {m w m' w' m'' w'' : List ℕ} {q : Access} (r : Outcome) {calls : List Asked} →
      Accessed c q m w r m' w' → Chain r.card m' w' calls d m'' w'' → Chain c m w (record { access = direct (access_as q); answer = plain (answer_as r.answer) } ∷ calls) d m'' w''
  registered : {c d : Card} {m w m' w' m'' w'' : List ℕ} {q : RegisterAccess} (r : Outcome) {calls : List Asked} →
      RegisterAccessed c q m w r m' w' → Chain r.card m' w' calls d m'' w'' → Chain c m w (record { access = register q; answer = plain (answer_as r.answer) } ∷ calls) d m'' w''
  bursted : {c d : Card} {m w list m' m'' w'' : List ℕ} {b : Burst} (t : Result ℕ Stop) {calls : List Asked} →
      Bursted c b m w t list m' → Chain c m' w calls d m'' w'' → Chain c m w (record { access = bursting b; answer = told_as t list } ∷ calls) d m'' w''

abbrev pub calls_of : List Asked → List Call
calls_of calls = map (λ e. e.access) calls

-- an entry of the run that notes, without its note
abbrev pub unnoted : Entry Call Reply → Asked
unnoted e = record { access = e.access; answer = e.answer.told }

-- THE LAWS

pub calls_run : {c d : Card} {m w m' w' : List ℕ} {calls : List Asked} → Chain c m w calls d m' w' →
    run call (world_as c m w) (calls_of calls) ≡ record { entries = calls; world = world_as d m' w' }
calls_run ended = refl
calls_run (accessed r a k) = rw (← a.0, calls_run k)
calls_run (registered r a k) = rw (← a.0, calls_run k)
calls_run (bursted t a k) = rw (← a, calls_run k)

-- A BURST AND ITS SINGLE ACCESSES. "It equals the single accesses done one by one": a call of a burst, and calls of `device::access` for its single
-- accesses one by one. The burst is told the total of the answers that those calls get, and card and memories end the same.

-- an access with its answer, among calls
abbrev pub one_of : Entry accesses.Access Answer → Asked
one_of e = record { access = direct e.access; answer = plain e.answer }

run_ones : (w : World) (l : List accesses.Access) → run call w (map direct l) ≡ record { entries = map one_of (run access w l).entries; world = (run access w l).world }
run_ones w [] = refl
run_ones w (q ∷ l) = rw (run_ones (access w q).world l)

pub record BySingles (before : World) (b : Burst) (told : Told) (after : World) (calls : List Asked) (last : World) : Type 0 where
  pub answers : List (Entry accesses.Access Answer)
  pub each : calls ≡ map one_of answers
  pub total : told ≡ total (burst_refusal before b) b answers
  pub world : after ≡ last

pub burst_by_singles : {c d : Card} {m w list m' m'' w'' : List ℕ} (b : Burst) (t : Result ℕ Stop) {calls : List Asked} →
    Bursted c b m w t list m' → Chain c m w calls d m'' w'' → calls_of calls ≡ map direct (singles b) →
    BySingles (world_as c m w) b (told_as t list) (world_as c m' w) calls (world_as d m'' w'')
unfolding burst
burst_by_singles {c} {d} {m} {w} b t h chain same =
    let ran = sym (calls_run chain) ∙ ap (run call (world_as c m w)) same ∙ run_ones (world_as c m w) (singles b) in
    record {
      answers = (run access (world_as c m w) (singles b)).entries;
      each = ap (λ r. r.entries) ran;
      total = ap (λ r. r.answer) h;
      world = ap (λ r. r.world) h ∙ sym (ap (λ r. r.world) ran);
    }

-- to note changes no answer
noted_run : (w : World) (calls : List Call) → run call w calls ≡ record { entries = map unnoted (run noted w calls).entries; world = (run noted w calls).world }
noted_run w [] = refl
noted_run w (c ∷ calls) = rw (noted_run (call w c).world calls)

-- the card that `card::fresh` hands out: of the settings, or the one beside refusal 1
abbrev pub card_of : Result Card Unfit → Card
card_of (Ok c) = c
card_of (Err unfit) = unfit.card

card_is : (n : Result Card Unfit) → state_as (card_of n) ≡ (new_card_as n).card
card_is (Ok c) = refl
card_is (Err unfit) = refl

-- that card, with any settings and any two memories
module _ (s : Settings) (n : Result Card Unfit) (m w : List ℕ) (h : new_card_as n ≡ fresh_card (settings_as s)) where
  -- the calls in the definition's run, each with what it was to the transfers
  abbrev pub noted_from : List Asked → List (Entry Call Reply)
  noted_from calls = (run noted (fresh_world (settings_as s) m w) (calls_of calls)).entries

  -- the premise of rule 3
  abbrev pub NoneDisturbed : List Asked → Type 0
  NoneDisturbed calls = Undisturbed quiet_call (roles noted_action (noted_from calls))

  -- the same of the list in which each burst is replaced by the single accesses that it counts as
  abbrev pub NoneDisturbedFlat : List Asked → Type 0
  NoneDisturbedFlat calls = Undisturbed quiet_call (roles noted_action (run noted (fresh_world (settings_as s) m w) (flat (noted_from calls))).entries)

  -- each transfer's done steps moved to its start
  abbrev pub steps_moved : List Asked → List Asked
  steps_moved calls = map unnoted (moved (roles noted_action (noted_from calls)))

  fresh_run : {d : Card} {m' w' : List ℕ} {calls : List Asked} → Chain (card_of n) m w calls d m' w' →
      run call (fresh_world (settings_as s) m w) (calls_of calls) ≡ record { entries = calls; world = world_as d m' w' }
  fresh_run chain = rw (← h, ← card_is n) (calls_run chain)

  -- where the definition's run moves, the calls do
  carried : {d e : Card} {m' w' m'' w'' : List ℕ} {calls others : List Asked} → let list = moved (roles noted_action (noted_from calls)) in
      Chain (card_of n) m w calls d m' w' → Chain (card_of n) m w others e m'' w'' → calls_of others ≡ calls_of (steps_moved calls) →
      run noted (fresh_world (settings_as s) m w) (map (λ e. e.access) list) ≡ record { entries = list; world = (run noted (fresh_world (settings_as s) m w) (calls_of calls)).world } →
      (others ≡ steps_moved calls) × (world_as e m'' w'' ≡ world_as d m' w')
  carried {d} {m' = m'} {w' = w'} {calls = calls} {others = others} first second same moves =
      let fresh = fresh_world (settings_as s) m w in
      let list = moved (roles noted_action (noted_from calls)) in
      let ends : (run noted fresh (calls_of calls)).world ≡ world_as d m' w' = sym (ap (λ r. r.world) (noted_run fresh (calls_of calls))) ∙ ap (λ r. r.world) (fresh_run first) in
      let runs : run call fresh (calls_of others) ≡ record { entries = map unnoted list; world = world_as d m' w' } =
      rw (same ∙ unnoted_calls list, noted_run fresh (map (λ e. e.access) list), moves, ends) in
      let both = sym (fresh_run second) ∙ runs in
      (ap (λ r. r.entries) both, ap (λ r. r.world) both)
    where
      unnoted_calls : (l : List (Entry Call Reply)) → calls_of (map unnoted l) ≡ map (λ e. e.access) l
      unnoted_calls [] = refl
      unnoted_calls (e ∷ l) = ap (λ t. e.access ∷ t) (unnoted_calls l)

  -- RULE 3 OF CALLS. The calls of a list, and those of the list with each transfer's done steps moved to its start: if no transfer is disturbed,
  -- every call of the second is told what it was told in the first, and the card, as the definitions see it, and both memories end the same.
  module _ {d e : Card} {m' w' m'' w'' : List ℕ} {calls others : List Asked} (first : Chain (card_of n) m w calls d m' w') (second : Chain (card_of n) m w others e m'' w'')
      (same : calls_of others ≡ calls_of (steps_moved calls)) where
    pub calls_moved : NoneDisturbed calls → (others ≡ steps_moved calls) × (world_as e m'' w'' ≡ world_as d m' w')
    calls_moved u = carried first second same (calls_move (settings_as s) m w (calls_of calls) u)

    -- L10: "For demand 3 a burst counts as its single accesses": the premise may be that of the list with those in its place
    pub flat_calls_moved : NoneDisturbedFlat calls → (others ≡ steps_moved calls) × (world_as e m'' w'' ≡ world_as d m' w')
    flat_calls_moved u = carried first second same (flat_calls_move (settings_as s) m w (calls_of calls) u)
