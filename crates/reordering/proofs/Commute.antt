-- What a plain access does commutes with what a step does, where no byte is stored by one and touched by the other.
-- Shown of two effects, change by change and store by store, not of kinds.
use Rattle.std.specs.Prelude.{◌≡◌, refl, List, [], ◌∷◌, ℕ}
use Rattle.std.proofs.Common.{ap, ◌∙◌}
use Rattle.model.specs.Lanes.{read_dword}
use Rattle.model.specs.Sides.{Side, host, local}
use Rattle.model.specs.Events.{Event}
use Rattle.model.specs.Interrupts.{on_register}
use Rattle.model.specs.Transfer.{Transfer}
use Rattle.model.specs.State.{State, World, with_interrupts}
use Rattle.model.specs.Changes.{Change, all_fresh, pushed, popped, flag_is, mail_is, raised, cleared, enables_are, transfer_is, dma_is, apply, apply_all, Store, nothing, to_shared, to_window, shared_after, window_after, Effect, world_after}
use Rattle.model.specs.Choice.{All}
use Rattle.model.proofs.LaneLaws.{Covers, read_write, write_write}
use Rattle.model.proofs.EventLaws.{insert_comm}

-- THE RECORD

-- what the plain accesses change: FIFOs, flags, mailboxes, and events raised
abbrev pub Plain : Change → Type 0
Plain all_fresh = ⊥
Plain (pushed i entry) = Unit {0}
Plain (popped i) = Unit {0}
Plain (flag_is side i b) = Unit {0}
Plain (mail_is side d) = Unit {0}
Plain (raised side e) = Unit {0}
Plain (cleared side bits) = ⊥
Plain (enables_are side n) = ⊥
Plain (transfer_is d) = ⊥
Plain (dma_is d) = ⊥

-- what a step changes: the transfer, and events raised
abbrev pub Stepwise : Change → Type 0
Stepwise all_fresh = ⊥
Stepwise (pushed i entry) = ⊥
Stepwise (popped i) = ⊥
Stepwise (flag_is side i b) = ⊥
Stepwise (mail_is side d) = ⊥
Stepwise (raised side e) = Unit {0}
Stepwise (cleared side bits) = ⊥
Stepwise (enables_are side n) = ⊥
Stepwise (transfer_is d) = Unit {0}
Stepwise (dma_is d) = ⊥

raise_raise : (a b : Side) (d e : Event) (s : State) → apply (raised a d) (apply (raised b e) s) ≡ apply (raised b e) (apply (raised a d) s)
raise_raise host host d e s = ap (λ n. with_interrupts (on_register host (λ r. record { enables = r.enables; status = n }) s.interrupts) s) (insert_comm s.interrupts.hint.status e d)
raise_raise host local d e s = refl
raise_raise local host d e s = refl
raise_raise local local d e s = ap (λ n. with_interrupts (on_register local (λ r. record { enables = r.enables; status = n }) s.interrupts) s) (insert_comm s.interrupts.lint.status e d)

swap_raised : (c : Change) → Plain c → (side : Side) (e : Event) (s : State) → apply c (apply (raised side e) s) ≡ apply (raised side e) (apply c s)
swap_raised all_fresh p side e s = elim p [ ]
swap_raised (pushed i entry) p side e s = refl
swap_raised (popped i) p side e s = refl
swap_raised (flag_is at i b) p side e s = refl
swap_raised (mail_is at n) p side e s = refl
swap_raised (raised at f) p side e s = raise_raise at side f e s
swap_raised (cleared at bits) p side e s = elim p [ ]
swap_raised (enables_are at n) p side e s = elim p [ ]
swap_raised (transfer_is t) p side e s = elim p [ ]
swap_raised (dma_is d) p side e s = elim p [ ]

swap_transfer : (c : Change) → Plain c → (t : Transfer) (s : State) → apply c (apply (transfer_is t) s) ≡ apply (transfer_is t) (apply c s)
swap_transfer all_fresh p t s = elim p [ ]
swap_transfer (pushed i entry) p t s = refl
swap_transfer (popped i) p t s = refl
swap_transfer (flag_is side i b) p t s = refl
swap_transfer (mail_is side n) p t s = refl
swap_transfer (raised side e) p t s = refl
swap_transfer (cleared side bits) p t s = elim p [ ]
swap_transfer (enables_are side n) p t s = elim p [ ]
swap_transfer (transfer_is d) p t s = elim p [ ]
swap_transfer (dma_is d) p t s = elim p [ ]

swap_one : (c d : Change) → Plain c → Stepwise d → (s : State) → apply c (apply d s) ≡ apply d (apply c s)
swap_one c all_fresh p r s = elim r [ ]
swap_one c (pushed i entry) p r s = elim r [ ]
swap_one c (popped i) p r s = elim r [ ]
swap_one c (flag_is side i b) p r s = elim r [ ]
swap_one c (mail_is side n) p r s = elim r [ ]
swap_one c (raised side e) p r s = swap_raised c p side e s
swap_one c (cleared side bits) p r s = elim r [ ]
swap_one c (enables_are side n) p r s = elim r [ ]
swap_one c (transfer_is t) p r s = swap_transfer c p t s
swap_one c (dma_is t) p r s = elim r [ ]

swap_into : (c : Change) → Plain c → (ds : List Change) → All Stepwise ds → (s : State) → apply c (apply_all ds s) ≡ apply_all ds (apply c s)
swap_into c p [] r s = refl
swap_into c p (d ∷ ds) r s = swap_into c p ds r.1 (apply d s) ∙ ap (apply_all ds) (swap_one c d p r.0 s)

swap_all : (cs : List Change) → All Plain cs → (ds : List Change) → All Stepwise ds → (s : State) → apply_all cs (apply_all ds s) ≡ apply_all ds (apply_all cs s)
swap_all [] p ds r s = refl
swap_all (c ∷ cs) p ds r s = ap (apply_all cs) (swap_into c p.0 ds r s) ∙ swap_all cs p.1 ds r (apply c s)

-- a plain change leaves the transfer as it is
keep_one : (c : Change) → Plain c → (s : State) → (apply c s).transfer ≡ s.transfer
keep_one all_fresh k s = elim k [ ]
keep_one (pushed i entry) k s = refl
keep_one (popped i) k s = refl
keep_one (flag_is side i b) k s = refl
keep_one (mail_is side d) k s = refl
keep_one (raised side e) k s = refl
keep_one (cleared side bits) k s = elim k [ ]
keep_one (enables_are side n) k s = elim k [ ]
keep_one (transfer_is d) k s = elim k [ ]
keep_one (dma_is d) k s = elim k [ ]

pub keep_transfer : (cs : List Change) → All Plain cs → (s : State) → (apply_all cs s).transfer ≡ s.transfer
keep_transfer [] k s = refl
keep_transfer (c ∷ cs) k s = keep_transfer cs k.1 (apply c s) ∙ keep_one c k.0 s

-- what a step leaves as it is: all of the record that the plain accesses look at
pub record Like (s s' : State) : Type 0 where
  pub settings : s'.settings ≡ s.settings
  pub fifos : s'.fifos ≡ s.fifos
  pub arbitration : s'.arbitration ≡ s.arbitration
  pub mailboxes : s'.mailboxes ≡ s.mailboxes

like_one : (d : Change) → Stepwise d → (s : State) → Like s (apply d s)
like_one all_fresh r s = elim r [ ]
like_one (pushed i entry) r s = elim r [ ]
like_one (popped i) r s = elim r [ ]
like_one (flag_is side i b) r s = elim r [ ]
like_one (mail_is side n) r s = elim r [ ]
like_one (raised side e) r s = record { settings = refl; fifos = refl; arbitration = refl; mailboxes = refl }
like_one (cleared side bits) r s = elim r [ ]
like_one (enables_are side n) r s = elim r [ ]
like_one (transfer_is t) r s = record { settings = refl; fifos = refl; arbitration = refl; mailboxes = refl }
like_one (dma_is d) r s = elim r [ ]

pub like : (ds : List Change) → All Stepwise ds → (s : State) → Like s (apply_all ds s)
like [] r s = record { settings = refl; fifos = refl; arbitration = refl; mailboxes = refl }
like (d ∷ ds) r s =
    let a = like_one d r.0 s in
    let b = like ds r.1 (apply d s) in
    record { settings = b.settings ∙ a.settings; fifos = b.fifos ∙ a.fifos; arbitration = b.arbitration ∙ a.arbitration; mailboxes = b.mailboxes ∙ a.mailboxes }

-- THE MEMORIES

-- no byte is stored of the set S of shared memory or the set W of the window; every byte stored is of the sets
abbrev pub Misses : (S W : ℕ → Type 0) → Store → Type 0
Misses S W nothing = Unit {0}
Misses S W (to_shared at lanes v) = (j : ℕ) → Covers 4 at lanes j → S j → ⊥
Misses S W (to_window at lanes v) = (j : ℕ) → Covers 4 at lanes j → W j → ⊥

abbrev pub Hits : (S W : ℕ → Type 0) → Store → Type 0
Hits S W nothing = Unit {0}
Hits S W (to_shared at lanes v) = (j : ℕ) → Covers 4 at lanes j → S j
Hits S W (to_window at lanes v) = (j : ℕ) → Covers 4 at lanes j → W j

module _ (S W : ℕ → Type 0) where
  pub reads_shared : (t : Store) → Misses S W t → (m : List ℕ) (at lanes : ℕ) → ((j : ℕ) → Covers 4 at lanes j → S j) → read_dword (shared_after t m) at lanes ≡ read_dword m at lanes
  reads_shared nothing k m at lanes h = refl
  reads_shared (to_shared x l v) k m at lanes h = read_write m x l v at lanes (λ j c d. k j c (h j d))
  reads_shared (to_window x l v) k m at lanes h = refl

  pub reads_window : (t : Store) → Misses S W t → (m : List ℕ) (at lanes : ℕ) → ((j : ℕ) → Covers 4 at lanes j → W j) → read_dword (window_after t m) at lanes ≡ read_dword m at lanes
  reads_window nothing k m at lanes h = refl
  reads_window (to_shared x l v) k m at lanes h = refl
  reads_window (to_window x l v) k m at lanes h = read_write m x l v at lanes (λ j c d. k j c (h j d))

  swap_shared : (t u : Store) → Misses S W t → Hits S W u → (m : List ℕ) → shared_after t (shared_after u m) ≡ shared_after u (shared_after t m)
  swap_shared nothing u k h m = refl
  swap_shared (to_shared x l v) nothing k h m = refl
  swap_shared (to_shared x l v) (to_shared y n z) k h m = write_write m x l v y n z (λ j c d. k j c (h j d))
  swap_shared (to_shared x l v) (to_window y n z) k h m = refl
  swap_shared (to_window x l v) u k h m = refl

  swap_window : (t u : Store) → Misses S W t → Hits S W u → (m : List ℕ) → window_after t (window_after u m) ≡ window_after u (window_after t m)
  swap_window nothing u k h m = refl
  swap_window (to_shared x l v) u k h m = refl
  swap_window (to_window x l v) nothing k h m = refl
  swap_window (to_window x l v) (to_shared y n z) k h m = refl
  swap_window (to_window x l v) (to_window y n z) k h m = write_write m x l v y n z (λ j c d. k j c (h j d))

  -- THE LAW of two effects
  pub swap_effects : (e f : Effect) → All Plain e.changes → Misses S W e.store → All Stepwise f.changes → Hits S W f.store → (w : World) → world_after e (world_after f w) ≡ world_after f (world_after e w)
  swap_effects e f p m r h w =
      let card = swap_all e.changes p f.changes r w.card in
      let shared = swap_shared e.store f.store m h w.shared in
      let window = swap_window e.store f.store m h w.window in
      rw (card, shared, window)
