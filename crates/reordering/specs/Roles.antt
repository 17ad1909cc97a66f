-- Rule 3's terms, of any machine: which entry of a list starts or steps which transfer, and the list with each transfer's steps moved to its start.
use Rattle.std.specs.Prelude.{◌≡◌, ◌≢◌, Bool, true, false, ℕ, suc, eqb, if◌then◌else◌}
use mathlib.Core.List.{List, [], ◌∷◌, ◌++◌, tail}

-- What an answered access is to the transfers; T is what a start says of its own. `steps true` is a transfer's last: V is 2, 3 or 4.
pub data TransferAction (T : Type 0) : Type 0 where
  resets : TransferAction T
  starts : T → TransferAction T
  steps : (last : Bool) → TransferAction T
  none : TransferAction T

-- The open transfers, oldest first: "the starts done since the last done reset" that have "no step yet with V 2, 3 or 4". A new one is listed as `new t`.
abbrev pub open_after : {T B : Type 0} → (new : T → B) → TransferAction T → List B → List B
open_after new resets opened = []
open_after new (starts t) opened = opened ++ (new t ∷ [])
open_after new (steps true) opened = tail opened
open_after new (steps false) opened = opened
open_after new none opened = opened

-- the number of the next transfer
abbrev pub count_after : {T : Type 0} → ℕ → TransferAction T → ℕ
count_after n resets = n
count_after n (starts t) = suc n
count_after n (steps last) = n
count_after n none = n

-- an entry in its role: the start of transfer k, a step of transfer k, or neither
pub data Role (T E : Type 0) : Type 0 where
  start_of : (k : ℕ) → T → E → Role T E
  step_of : (k : ℕ) → E → Role T E
  neither : E → Role T E

module _ {T E : Type 0} where
  abbrev pub entry_of : Role T E → E
  entry_of (start_of k t e) = e
  entry_of (step_of k e) = e
  entry_of (neither e) = e

  -- "A done step belongs to the earliest": to the oldest open transfer.
  abbrev pub role_of : (n : ℕ) → (opened : List (ℕ × T)) → TransferAction T → E → Role T E
  role_of n opened resets e = neither e
  role_of n opened (starts t) e = start_of n t e
  role_of n [] (steps last) e = neither e
  role_of n (oldest ∷ opened) (steps last) e = step_of oldest.0 e
  role_of n opened none e = neither e

  -- the entries in their roles, where these transfers are open and the next is number `n`
  abbrev pub roles_from : (action_of : E → TransferAction T) → (n : ℕ) → (opened : List (ℕ × T)) → List E → List (Role T E)
  roles_from action_of n opened [] = []
  roles_from action_of n opened (e ∷ es) =
      role_of n opened (action_of e) e ∷ roles_from action_of (count_after n (action_of e)) (open_after (λ t. (n, t)) (action_of e) opened) es

  -- at the beginning of a list no transfer is open
  abbrev pub roles : (action_of : E → TransferAction T) → List E → List (Role T E)
  roles action_of es = roles_from action_of 0 [] es

  -- the done steps of transfer k, in their order
  abbrev pub steps_of : (k : ℕ) → List (Role T E) → List E
  steps_of k [] = []
  steps_of k (start_of j t e ∷ l) = steps_of k l
  steps_of k (step_of j e ∷ l) = if eqb k j then e ∷ steps_of k l else steps_of k l
  steps_of k (neither e ∷ l) = steps_of k l

  -- "Move each transfer's done steps, in their order, to stand directly after its start; the rest keeps its order."
  abbrev pub moved : List (Role T E) → List E
  moved [] = []
  moved (start_of k t e ∷ l) = e ∷ (steps_of k l ++ moved l)
  moved (step_of k e ∷ l) = moved l
  moved (neither e ∷ l) = e ∷ moved l

  -- "For each transfer with a step done, look from its start to the last such step in the list": wherever `x` stands behind the start of
  -- transfer k and before a step of it, and is no step of it, x is quiet for the transfer.
  abbrev pub Undisturbed : (quiet : T → E → Bool) → List (Role T E) → Type 0
  Undisturbed quiet l =
      (before between behind : List (Role T E)) (k : ℕ) (t : T) (e : E) (x : Role T E) →
      l ≡ before ++ (start_of k t e ∷ (between ++ (x ∷ behind))) →
      steps_of k behind ≢ [] → x ≢ step_of k (entry_of x) → quiet t (entry_of x) ≡ true

  -- an entry that belongs to no transfer is no done step: every done step has its start
  abbrev pub Owned : (action_of : E → TransferAction T) → List (Role T E) → Type 0
  Owned action_of [] = Unit {0}
  Owned action_of (start_of k t e ∷ l) = Owned action_of l
  Owned action_of (step_of k e ∷ l) = Owned action_of l
  Owned action_of (neither e ∷ l) = ((last : Bool) → action_of e ≢ steps last) × Owned action_of l
