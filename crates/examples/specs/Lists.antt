-- Rule 3 at work: lists in which steps really move, each with its premise shown and the moved list written out, computed on the bench.
use Rattle.std.specs.Prelude.{◌≡◌, refl, Bool, true, List, [], ◌∷◌, ◌++◌, map, replicate}
use Rattle.std.proofs.Math.Path.{subst}
use Rattle.model.specs.Lanes.{read_dword, write_dword}
use Rattle.model.specs.State.{World, sound, fresh_card}
use Rattle.model.specs.Transfer.{Request}
use Rattle.model.specs.Runs.{Outcome, Entry, run}
use Rattle.model.specs.Accesses.{Access, access}
use Rattle.model.specs.Registers.{register_access}
use Rattle.model.specs.Calls.{Call}
use Rattle.model.specs.Pins.{decode}
use Rattle.model.specs.Bursts.{burst}
use Rattle.model.specs.Bench.{q, d, g, p, bw, br, replay_settings, bench}
use Rattle.reordering.specs.Roles.{TransferAction, roles, moved}
use Rattle.reordering.specs.Reordering.{quiet, action_of, StepsMoveOf}
use Rattle.reordering.specs.CallReordering.{noted, noted_action, quiet_call}
use Rattle.reordering.proofs.Premise.{undisturbed, premise}
use Rattle.reordering.proofs.Exchange.{steps_move}
use Rattle.reordering.proofs.CallExchange.{calls_move}

-- of any machine: where the premise computes to true, the moved list computes to `afterwards`
module _ {Q R : Type 0} (machine : World → Q → Outcome R World) (action_of : Entry Q R → TransferAction Request) (quiet : Request → Entry Q R → Bool)
    (theorem : StepsMoveOf action_of quiet machine) where
  -- "the same number, V and X as before the move, and the registers and every byte of both memories end the same"
  abbrev pub Same : (accesses afterwards : List Q) → Type 0
  Same accesses afterwards =
      run machine bench afterwards ≡ record { entries = moved (roles action_of (run machine bench accesses).entries); world = (run machine bench accesses).world }

  worked : (accesses afterwards : List Q) → undisturbed quiet (roles action_of (run machine bench accesses).entries) ≡ true →
      map (λ e. e.access) (moved (roles action_of (run machine bench accesses).entries)) ≡ afterwards → Same accesses afterwards
  unfolding bench
  worked accesses afterwards h e =
      subst (λ l. run machine bench l ≡ record { entries = moved (roles action_of (run machine bench accesses).entries); world = (run machine bench accesses).world }) e
      (theorem replay_settings (replicate 16384 0) (replicate 32768 0) accesses (premise quiet (roles action_of (run machine bench accesses).entries) h))

-- two dwords from the window to shared address 4; between the steps a write beside the range, one inside it on disabled lanes, a read of the
-- source, a put, and a line level and a reset that are refused; behind them a read of the destination and of an interrupt register
abbrev pub interleaved : List Access
interleaved =
    q 4 0 0 0x10000000 0x04030201 0
    ∷ q 14 0 0 4 0x10000000 8
    ∷ q 2 1 14 0 0x55 0
    ∷ q 15 0 0 0 0 0
    ∷ q 2 0 15 4 0x77 0
    ∷ q 3 0 0 0x10000004 0 0
    ∷ q 6 0 1 0 7 0
    ∷ q 13 0 0 0 1 0
    ∷ q 0 0 1 0 0 0
    ∷ q 15 1 0 0 0 0
    ∷ q 1 1 0 4 0 0
    ∷ q 11 1 0 0 0 0
    ∷ []

abbrev pub interleaved_moved : List Access
interleaved_moved =
    q 4 0 0 0x10000000 0x04030201 0
    ∷ q 14 0 0 4 0x10000000 8
    ∷ q 15 0 0 0 0 0
    ∷ q 15 1 0 0 0 0
    ∷ q 2 1 14 0 0x55 0
    ∷ q 2 0 15 4 0x77 0
    ∷ q 3 0 0 0x10000004 0 0
    ∷ q 6 0 1 0 7 0
    ∷ q 13 0 0 0 1 0
    ∷ q 0 0 1 0 0 0
    ∷ q 1 1 0 4 0 0
    ∷ q 11 1 0 0 0 0
    ∷ []

pub interleaved_same : Same access action_of quiet steps_move interleaved interleaved_moved
unfolding bench fresh_card access sound read_dword write_dword
interleaved_same = worked access action_of quiet steps_move interleaved interleaved_moved refl refl

-- two transfers, one after the other: from shared memory to the window, and into the abort range after one dword; the mailboxes and
-- an overfull FIFO in between
abbrev pub two_transfers : List Access
two_transfers =
    q 2 1 0 8 0xAABBCCDD 0
    ∷ q 14 1 1 8 0x10000100 4
    ∷ q 9 1 0 0 0x01000005 0
    ∷ q 15 0 0 0 0 0
    ∷ q 14 0 0 0 0x10006FFC 8
    ∷ q 15 1 0 0 0 0
    ∷ (replicate 33 (q 6 0 1 0 0 0)
    ++ (q 15 0 0 0 0 0
    ∷ q 11 0 0 0 0 0
    ∷ q 3 0 0 0x10000100 0 0
    ∷ []))

abbrev pub two_transfers_moved : List Access
two_transfers_moved =
    q 2 1 0 8 0xAABBCCDD 0
    ∷ q 14 1 1 8 0x10000100 4
    ∷ q 15 0 0 0 0 0
    ∷ q 9 1 0 0 0x01000005 0
    ∷ q 14 0 0 0 0x10006FFC 8
    ∷ q 15 1 0 0 0 0
    ∷ q 15 0 0 0 0 0
    ∷ (replicate 33 (q 6 0 1 0 0 0)
    ++ (q 11 0 0 0 0 0
    ∷ q 3 0 0 0x10000100 0 0
    ∷ []))

pub two_transfers_same : Same access action_of quiet steps_move two_transfers two_transfers_moved
unfolding bench fresh_card access sound read_dword write_dword
two_transfers_same = worked access action_of quiet steps_move two_transfers two_transfers_moved refl refl

-- a transfer cut off by a reset, whose first dword moves; then another, with the same ranges
abbrev pub cut_off : List Access
cut_off =
    q 14 0 0 0 0x10000000 8
    ∷ q 7 1 2 0 0 0
    ∷ q 15 0 0 0 0 0
    ∷ q 11 0 0 0 0 0
    ∷ q 0 1 0 0 0 0
    ∷ q 15 0 0 0 0 0
    ∷ q 14 1 0 0 0x10000000 4
    ∷ q 16 1 0 0 0 0
    ∷ q 15 1 0 0 0 0
    ∷ []

abbrev pub cut_off_moved : List Access
cut_off_moved =
    q 14 0 0 0 0x10000000 8
    ∷ q 15 0 0 0 0 0
    ∷ q 7 1 2 0 0 0
    ∷ q 11 0 0 0 0 0
    ∷ q 0 1 0 0 0 0
    ∷ q 15 0 0 0 0 0
    ∷ q 14 1 0 0 0x10000000 4
    ∷ q 15 1 0 0 0 0
    ∷ q 16 1 0 0 0 0
    ∷ []

pub cut_off_same : Same access action_of quiet steps_move cut_off cut_off_moved
unfolding bench fresh_card access sound read_dword write_dword
cut_off_same = worked access action_of quiet steps_move cut_off cut_off_moved refl refl

-- from the window to shared addresses 4 to 11: between start and steps every kind that leaves the transfer alone, bytes right beside both
-- ranges, reads and writes inside them on disabled lanes, reads of the source, and refused accesses of the kinds that would disturb it
abbrev pub beside_ranges : List Access
beside_ranges =
    q 2 1 7 0 0x55000000 0
    ∷ q 2 1 14 12 0x66 0
    ∷ q 4 0 7 0x10000000 0x77000000 0
    ∷ q 4 0 14 0x1000000C 0x88 0
    ∷ q 1 0 7 0 0 0
    ∷ q 1 0 14 12 0 0
    ∷ q 1 0 15 4 0 0
    ∷ q 2 0 15 8 0x99 0
    ∷ q 4 0 15 0x10000004 0x99 0
    ∷ q 3 0 0 0x10000008 0 0
    ∷ q 5 0 0 0 0 0
    ∷ q 8 1 3 0 0 0
    ∷ q 10 0 0 0 0 0
    ∷ q 0 0 1 0 0 0
    ∷ q 1 0 16 4 0 0
    ∷ q 2 0 0 5 0 0
    ∷ q 4 1 0 0x10000004 0 0
    ∷ q 11 0 1 0 0 0
    ∷ q 12 1 1 0 0 0
    ∷ q 13 0 1 0 0 0
    ∷ q 15 0 1 0 0 0
    ∷ q 17 0 0 0 0 0
    ∷ []

abbrev pub beside : List Access
beside = q 14 0 0 4 0x10000004 8 ∷ (beside_ranges ++ (q 15 0 0 0 0 0 ∷ q 15 1 0 0 0 0 ∷ []))

abbrev pub beside_moved : List Access
beside_moved = q 14 0 0 4 0x10000004 8 ∷ q 15 0 0 0 0 0 ∷ q 15 1 0 0 0 0 ∷ beside_ranges

pub beside_same : Same access action_of quiet steps_move beside beside_moved
unfolding bench fresh_card access sound read_dword write_dword
beside_same = worked access action_of quiet steps_move beside beside_moved refl refl

-- the same ranges the other way: the window is the destination
abbrev pub beside_window : List Access
beside_window =
    q 3 0 7 0x10000000 0 0
    ∷ q 3 0 14 0x1000000C 0 0
    ∷ q 3 0 15 0x10000004 0 0
    ∷ q 1 1 0 4 0 0
    ∷ q 3 1 0 0x10000004 0 0
    ∷ []

abbrev pub beside_back : List Access
beside_back = q 14 1 1 4 0x10000004 8 ∷ (beside_window ++ (q 15 0 0 0 0 0 ∷ q 15 1 0 0 0 0 ∷ []))

abbrev pub beside_back_moved : List Access
beside_back_moved = q 14 1 1 4 0x10000004 8 ∷ q 15 0 0 0 0 0 ∷ q 15 1 0 0 0 0 ∷ beside_window

pub beside_back_same : Same access action_of quiet steps_move beside_back beside_back_moved
unfolding bench fresh_card access sound read_dword write_dword
beside_back_same = worked access action_of quiet steps_move beside_back beside_back_moved refl refl

-- CALLS

-- two dwords to shared address 4, programmed and started by registers; between start and steps whatever of the map leaves the transfer alone, a
-- write and a read beside its range, refused accesses to interrupt registers, and an offset beside DMALBASE that is none; behind them the size of
-- the next transfer
abbrev pub between_steps : List Call
between_steps =
    g 0 0x0040 1 7
    ∷ g 1 0x0048 0 0
    ∷ g 0 0x04C0 1 0x0101
    ∷ g 1 0x04C0 0 0
    ∷ g 1 0x04F8 1 0x01000005
    ∷ g 1 0x04F8 0 0
    ∷ g 0 0x04F8 0 0
    ∷ g 0 0x4000 1 0x55
    ∷ g 1 0x400C 0 0
    ∷ g 1 0x04E4 1 0xFFFFFFFF
    ∷ g 0 0x04F4 0 1
    ∷ g 0 0x04B1 0 0
    ∷ d 3 0 0 0x10000004 0 0
    ∷ []

abbrev pub by_registers : List Call
by_registers =
    g 0 0x04B0 1 4
    ∷ g 1 0x04B4 1 0x10000000
    ∷ g 0 0x04B8 1 8
    ∷ g 1 0x04BC 1 0
    ∷ (between_steps ++ (d 15 0 0 0 0 0 ∷ d 15 1 0 0 0 0 ∷ g 1 0x04E4 0 0 ∷ g 0 0x4004 0 0 ∷ g 0 0x04B8 1 4 ∷ g 0 0x04BC 0 0 ∷ []))

abbrev pub by_registers_moved : List Call
by_registers_moved =
    g 0 0x04B0 1 4
    ∷ g 1 0x04B4 1 0x10000000
    ∷ g 0 0x04B8 1 8
    ∷ g 1 0x04BC 1 0
    ∷ d 15 0 0 0 0 0
    ∷ d 15 1 0 0 0 0
    ∷ (between_steps ++ (g 1 0x04E4 0 0 ∷ g 0 0x4004 0 0 ∷ g 0 0x04B8 1 4 ∷ g 0 0x04BC 0 0 ∷ []))

pub by_registers_same : Same noted noted_action quiet_call calls_move by_registers by_registers_moved
unfolding bench fresh_card access register_access sound read_dword write_dword
by_registers_same = worked noted noted_action quiet_call calls_move by_registers by_registers_moved refl refl

-- two dwords to shared addresses 4 to 11; between start and steps bursts: writes in each mode right beside that range, lanes 2 and 3 of the dword
-- before it and all of the one behind it; a phase without lanes in it; a read beside it into a list with a place more; one that 13 stops far from
-- it; and two inside it that are refused. Behind them a burst that reads the destination.
abbrev pub among_bursts : List Call
among_bursts =
    d 4 0 0 0x10000000 0x04030201 0
    ∷ d 14 0 0 4 0x10000000 8
    ∷ bw 1 0 0 (p 0b1000 0x33 ∷ p 0b1100 0x44 ∷ [])
    ∷ d 15 0 0 0 0 0
    ∷ bw 1 1 3 (p 0b0000 0x2211 ∷ p 0b1000 0x4433 ∷ [])
    ∷ bw 1 3 2 (p 0b1111 0x99 ∷ p 0b0000 0x44332211 ∷ [])
    ∷ br 1 1 3 (p 0b0000 0 ∷ p 0b1000 0 ∷ []) (7 ∷ 8 ∷ 9 ∷ [])
    ∷ bw 1 3 4095 (p 0 1 ∷ p 0 2 ∷ [])
    ∷ bw 0 3 1 (p 0 1 ∷ [])
    ∷ br 1 3 1 (p 0 0 ∷ []) []
    ∷ d 15 1 0 0 0 0
    ∷ br 1 0 1 (p 0b0000 0 ∷ p 0b0100 0 ∷ p 0b1000 0 ∷ p 0b1100 0 ∷ p 0b0000 0 ∷ []) (0 ∷ 0 ∷ 0 ∷ 0 ∷ 0 ∷ [])
    ∷ []

abbrev pub among_bursts_moved : List Call
among_bursts_moved =
    d 4 0 0 0x10000000 0x04030201 0
    ∷ d 14 0 0 4 0x10000000 8
    ∷ d 15 0 0 0 0 0
    ∷ d 15 1 0 0 0 0
    ∷ bw 1 0 0 (p 0b1000 0x33 ∷ p 0b1100 0x44 ∷ [])
    ∷ bw 1 1 3 (p 0b0000 0x2211 ∷ p 0b1000 0x4433 ∷ [])
    ∷ bw 1 3 2 (p 0b1111 0x99 ∷ p 0b0000 0x44332211 ∷ [])
    ∷ br 1 1 3 (p 0b0000 0 ∷ p 0b1000 0 ∷ []) (7 ∷ 8 ∷ 9 ∷ [])
    ∷ bw 1 3 4095 (p 0 1 ∷ p 0 2 ∷ [])
    ∷ bw 0 3 1 (p 0 1 ∷ [])
    ∷ br 1 3 1 (p 0 0 ∷ []) []
    ∷ br 1 0 1 (p 0b0000 0 ∷ p 0b0100 0 ∷ p 0b1000 0 ∷ p 0b1100 0 ∷ p 0b0000 0 ∷ []) (0 ∷ 0 ∷ 0 ∷ 0 ∷ 0 ∷ [])
    ∷ []

pub among_bursts_same : Same noted noted_action quiet_call calls_move among_bursts among_bursts_moved
unfolding bench fresh_card access burst decode sound read_dword write_dword
among_bursts_same = worked noted noted_action quiet_call calls_move among_bursts among_bursts_moved refl refl
