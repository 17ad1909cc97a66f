-- Written by the independent program, oracle/: questions of L7 and their answers.
use Rattle.std.specs.Prelude.{refl, List, [], ◌∷◌, replicate}
use Rattle.model.specs.Lanes.{read_dword, write_dword}
use Rattle.model.specs.State.{sound, fresh_card}
use Rattle.model.specs.Accesses.{access}
use Rattle.model.specs.Bench.{q, bench}
use Rattle.model.specs.Trace.{read_record}
use Rattle.model.specs.Replay.{replay_records, replay}
use Rattle.model.specs.Convert.{written}
use Rattle.model.specs.Why.{never, cleared_by, set_by, held, history, accesses_from, refused, because, why}
use Rattle.cases.specs.Vectors.{WhyCase, why_case, holding, WhysAgree}

-- accesses, the bytes behind them, side, position; the answer
whys1 : List WhyCase
whys1 =
    why_case [] [] 2 0 (refused 43)
    ∷ why_case [] [] 256 4 (refused 43)
    ∷ why_case [] [] 0 2 (refused 42)
    ∷ why_case [] [] 1 2 (refused 42)
    ∷ why_case [] [] 1 4 (refused 42)
    ∷ why_case [] [] 0 10 (refused 42)
    ∷ why_case [] [] 1 260 (refused 42)
    ∷ why_case [] (replicate 81921 0) 0 9 (refused 41)
    ∷ why_case [] (replicate 81920 0) 0 9 (refused 40)
    ∷ why_case [] (66 ∷ []) 1 0 (refused 40)
    ∷ []

agrees_whys1 : WhysAgree whys1
unfolding whys1 why history accesses_from written read_record replay replay_records access bench sound fresh_card read_dword write_dword
agrees_whys1 = refl

whys2 : List WhyCase
whys2 =
    why_case [] [] 2 2 (refused 43)
    ∷ why_case [] (replicate 81921 0) 2 0 (refused 43)
    ∷ why_case [] (66 ∷ []) 2 0 (refused 43)
    ∷ why_case [] (replicate 81921 0) 1 4 (refused 42)
    ∷ why_case [] (66 ∷ []) 0 10 (refused 42)
    ∷ why_case (q 16 1 0 0 0 0 ∷ []) (66 ∷ []) 0 4 (refused 40)
    ∷ why_case (q 16 1 0 0 0 0 ∷ []) (66 ∷ 80 ∷ 0 ∷ 0 ∷ 16 ∷ 1 ∷ 0 ∷ 0 ∷ 0 ∷ 0 ∷ 0 ∷ 0 ∷ 0 ∷ 0 ∷ 0 ∷ 0 ∷ 0 ∷ 0 ∷ 0 ∷ 0 ∷ []) 0 4 (refused 40)
    ∷ why_case (q 16 1 0 0 0 0 ∷ []) (66 ∷ 80 ∷ 1 ∷ 0 ∷ 16 ∷ 1 ∷ 0 ∷ 1 ∷ 0 ∷ 0 ∷ 0 ∷ 0 ∷ 0 ∷ 0 ∷ 0 ∷ 0 ∷ 0 ∷ 0 ∷ 0 ∷ 0 ∷ []) 0 4 (refused 40)
    ∷ why_case [] [] 0 4 (because never)
    ∷ why_case (q 16 1 0 0 0 0 ∷ []) [] 0 4 (because (set_by 0))
    ∷ []

agrees_whys2 : WhysAgree whys2
unfolding whys2 why history accesses_from written read_record replay replay_records access bench sound fresh_card read_dword write_dword
agrees_whys2 = refl

whys3 : List WhyCase
whys3 =
    why_case (q 16 1 0 0 0 0 ∷ q 16 1 0 0 0 0 ∷ []) [] 0 4 (because (set_by 0))
    ∷ why_case (q 16 1 0 0 0 0 ∷ q 12 0 0 0 16 0 ∷ []) [] 0 4 (because (cleared_by 1))
    ∷ why_case (q 16 1 0 0 0 0 ∷ q 0 0 0 0 0 0 ∷ []) [] 0 4 (because (cleared_by 1))
    ∷ why_case (q 16 1 0 0 0 0 ∷ q 12 0 0 0 16 0 ∷ q 16 1 0 0 0 0 ∷ q 16 1 0 0 0 0 ∷ []) [] 0 4 (because (set_by 2))
    ∷ why_case (q 16 1 0 0 0 0 ∷ q 12 0 0 0 16 0 ∷ q 0 0 0 0 0 0 ∷ []) [] 0 4 (because (cleared_by 1))
    ∷ why_case (q 16 1 0 0 0 0 ∷ q 0 0 0 0 0 0 ∷ q 12 0 0 0 16 0 ∷ []) [] 0 4 (because (cleared_by 1))
    ∷ why_case (q 12 0 0 0 16 0 ∷ []) [] 0 4 (because never)
    ∷ why_case (q 0 0 0 0 0 0 ∷ []) [] 0 4 (because never)
    ∷ why_case (q 16 1 0 0 0 0 ∷ q 12 0 0 0 0 0 ∷ []) [] 0 4 (because (set_by 0))
    ∷ why_case (q 16 1 0 0 0 0 ∷ q 12 0 0 0 4294967279 0 ∷ []) [] 0 4 (because (set_by 0))
    ∷ []

agrees_whys3 : WhysAgree whys3
unfolding whys3 why history accesses_from written read_record replay replay_records access bench sound fresh_card read_dword write_dword
agrees_whys3 = refl

whys4 : List WhyCase
whys4 =
    why_case (q 16 1 0 0 0 0 ∷ q 12 1 0 0 4294967295 0 ∷ []) [] 0 4 (because (set_by 0))
    ∷ why_case (q 16 1 0 0 0 0 ∷ q 12 0 0 0 1048576 0 ∷ q 13 0 0 0 0 0 ∷ []) [] 0 4 (because (set_by 0))
    ∷ why_case (q 16 1 0 0 0 0 ∷ q 12 0 0 0 1048592 0 ∷ []) [] 0 4 (because (cleared_by 1))
    ∷ why_case (q 16 0 0 0 0 0 ∷ q 16 1 0 0 0 0 ∷ []) [] 0 4 (because (set_by 1))
    ∷ why_case (q 16 1 0 0 0 0 ∷ q 0 2 0 0 0 0 ∷ []) [] 0 4 (because (set_by 0))
    ∷ why_case (q 16 1 0 0 0 0 ∷ q 12 0 0 0 16 1 ∷ []) [] 0 4 (because (set_by 0))
    ∷ why_case (q 9 0 0 0 16777216 0 ∷ []) [] 0 3 (because never)
    ∷ why_case (q 9 0 0 0 16777216 0 ∷ []) [] 1 3 (because (set_by 0))
    ∷ why_case (q 9 1 0 0 16777216 0 ∷ []) [] 0 3 (because (set_by 0))
    ∷ why_case (q 9 1 0 0 16777216 0 ∷ []) [] 1 3 (because never)
    ∷ []

agrees_whys4 : WhysAgree whys4
unfolding whys4 why history accesses_from written read_record replay replay_records access bench sound fresh_card read_dword write_dword
agrees_whys4 = refl

whys5 : List WhyCase
whys5 =
    why_case (q 9 1 0 0 4278190079 0 ∷ []) [] 0 3 (because never)
    ∷ why_case (q 9 1 0 0 16777216 0 ∷ q 9 1 0 0 7 0 ∷ []) [] 0 3 (because (set_by 0))
    ∷ why_case (q 9 0 0 0 16777216 0 ∷ q 9 1 0 0 16777216 0 ∷ q 12 1 0 0 8 0 ∷ []) [] 0 3 (because (set_by 1))
    ∷ why_case (q 9 0 0 0 16777216 0 ∷ q 9 1 0 0 16777216 0 ∷ q 12 1 0 0 8 0 ∷ []) [] 1 3 (because (cleared_by 2))
    ∷ why_case (q 14 0 0 0 268435456 4 ∷ q 15 0 0 0 0 0 ∷ q 12 1 0 0 32 0 ∷ []) [] 0 5 (because (set_by 1))
    ∷ why_case (q 14 0 0 0 268435456 4 ∷ q 15 0 0 0 0 0 ∷ q 12 1 0 0 32 0 ∷ []) [] 1 5 (because (cleared_by 2))
    ∷ why_case (q 14 0 0 0 268435456 8 ∷ q 15 0 0 0 0 0 ∷ []) [] 1 5 (because never)
    ∷ why_case (q 14 0 0 0 268464128 4 ∷ q 15 0 0 0 0 0 ∷ q 12 0 0 0 256 0 ∷ []) [] 0 8 (because (cleared_by 2))
    ∷ why_case (q 14 0 0 0 268464128 4 ∷ q 15 0 0 0 0 0 ∷ q 12 0 0 0 256 0 ∷ []) [] 1 8 (because (set_by 1))
    ∷ why_case (q 14 0 0 0 268464124 8 ∷ q 15 0 0 0 0 0 ∷ q 15 0 0 0 0 0 ∷ q 15 0 0 0 0 0 ∷ []) [] 0 8 (because (set_by 2))
    ∷ []

agrees_whys5 : WhysAgree whys5
unfolding whys5 why history accesses_from written read_record replay replay_records access bench sound fresh_card read_dword write_dword
agrees_whys5 = refl

whys6 : List WhyCase
whys6 =
    why_case (q 14 0 0 0 268435452 4 ∷ q 15 0 0 0 0 0 ∷ []) [] 0 9 (because (set_by 1))
    ∷ why_case (q 14 0 0 0 268435452 4 ∷ q 15 0 0 0 0 0 ∷ []) [] 1 9 (because (set_by 1))
    ∷ why_case (q 14 0 0 0 268468224 4 ∷ q 15 0 0 0 0 0 ∷ q 0 0 0 0 0 0 ∷ q 14 0 0 0 268468224 4 ∷ q 15 0 0 0 0 0 ∷ q 0 0 0 0 0 0 ∷ []) [] 1 9 (because (cleared_by 5))
    ∷ why_case (q 14 0 0 0 268468224 4 ∷ q 15 0 0 0 0 0 ∷ q 0 0 0 0 0 0 ∷ q 14 0 0 0 268468224 4 ∷ q 15 0 0 0 0 0 ∷ []) [] 0 9 (because (set_by 4))
    ∷ why_case (q 6 1 3 0 0 0 ∷ q 6 1 3 0 1 0 ∷ q 6 1 3 0 2 0 ∷ q 6 1 3 0 3 0 ∷ q 6 1 3 0 4 0 ∷ q 6 1 3 0 5 0 ∷ q 6 1 3 0 6 0 ∷ q 6 1 3 0 7 0 ∷ q 6 1 3 0 8 0 ∷ q 6 1 3 0 9 0 ∷ q 6 1 3 0 10 0 ∷ q 6 1 3 0 11 0 ∷ q 6 1 3 0 12 0 ∷ q 6 1 3 0 13 0 ∷ q 6 1 3 0 14 0 ∷ q 6 1 3 0 15 0 ∷ q 6 1 3 0 16 0 ∷ q 6 1 3 0 17 0 ∷ q 6 1 3 0 18 0 ∷ q 6 1 3 0 19 0 ∷ q 6 1 3 0 20 0 ∷ q 6 1 3 0 21 0 ∷ q 6 1 3 0 22 0 ∷ q 6 1 3 0 23 0 ∷ q 6 1 3 0 24 0 ∷ q 6 1 3 0 25 0 ∷ q 6 1 3 0 26 0 ∷ q 6 1 3 0 27 0 ∷ q 6 1 3 0 28 0 ∷ q 6 1 3 0 29 0 ∷ q 6 1 3 0 30 0 ∷ q 6 1 3 0 31 0 ∷ q 6 1 3 0 32 0 ∷ []) [] 0 0 (because (set_by 32))
    ∷ why_case (q 6 0 1 0 0 0 ∷ q 6 0 1 0 1 0 ∷ q 6 0 1 0 2 0 ∷ q 6 0 1 0 3 0 ∷ q 6 0 1 0 4 0 ∷ q 6 0 1 0 5 0 ∷ q 6 0 1 0 6 0 ∷ q 6 0 1 0 7 0 ∷ q 6 0 1 0 8 0 ∷ q 6 0 1 0 9 0 ∷ q 6 0 1 0 10 0 ∷ q 6 0 1 0 11 0 ∷ q 6 0 1 0 12 0 ∷ q 6 0 1 0 13 0 ∷ q 6 0 1 0 14 0 ∷ q 6 0 1 0 15 0 ∷ q 6 0 1 0 16 0 ∷ q 6 0 1 0 17 0 ∷ q 6 0 1 0 18 0 ∷ q 6 0 1 0 19 0 ∷ q 6 0 1 0 20 0 ∷ q 6 0 1 0 21 0 ∷ q 6 0 1 0 22 0 ∷ q 6 0 1 0 23 0 ∷ q 6 0 1 0 24 0 ∷ q 6 0 1 0 25 0 ∷ q 6 0 1 0 26 0 ∷ q 6 0 1 0 27 0 ∷ q 6 0 1 0 28 0 ∷ q 6 0 1 0 29 0 ∷ q 6 0 1 0 30 0 ∷ q 6 0 1 0 31 0 ∷ q 6 0 1 0 32 0 ∷ q 12 1 0 0 2 0 ∷ []) [] 1 1 (because (cleared_by 33))
    ∷ why_case (q 6 0 1 0 0 0 ∷ []) [] 0 1 (because never)
    ∷ why_case (q 6 1 3 0 0 0 ∷ []) [] 1 0 (because never)
    ∷ why_case (q 6 0 1 0 0 0 ∷ []) [] 0 6 (because (held (holding 0 0 ∷ [])))
    ∷ why_case (q 6 0 1 0 0 0 ∷ []) [] 1 6 (because (held (holding 0 0 ∷ [])))
    ∷ []

agrees_whys6 : WhysAgree whys6
unfolding whys6 why history accesses_from written read_record replay replay_records access bench sound fresh_card read_dword write_dword
agrees_whys6 = refl

whys7 : List WhyCase
whys7 =
    why_case (q 6 1 3 0 4294967295 0 ∷ []) [] 0 7 (because (held (holding 4294967295 0 ∷ [])))
    ∷ why_case (q 6 1 3 0 4294967295 0 ∷ []) [] 1 7 (because (held (holding 4294967295 0 ∷ [])))
    ∷ why_case (q 6 0 1 0 0 0 ∷ q 6 0 1 0 7 0 ∷ q 5 1 1 0 0 0 ∷ []) [] 1 6 (because (held (holding 7 1 ∷ [])))
    ∷ why_case (q 6 0 1 0 0 0 ∷ q 5 1 1 0 0 0 ∷ q 5 1 1 0 0 0 ∷ q 0 0 0 0 0 0 ∷ []) [] 1 6 (because (cleared_by 1))
    ∷ why_case (q 6 0 1 0 0 0 ∷ q 6 0 1 0 7 0 ∷ q 0 0 0 0 0 0 ∷ q 5 1 1 0 0 0 ∷ []) [] 1 6 (because (cleared_by 2))
    ∷ why_case (q 5 1 1 0 0 0 ∷ q 0 0 0 0 0 0 ∷ []) [] 1 6 (because never)
    ∷ why_case (q 6 1 3 0 0 0 ∷ q 6 1 3 0 7 0 ∷ q 5 0 3 0 0 0 ∷ []) [] 1 7 (because (held (holding 7 1 ∷ [])))
    ∷ why_case (q 6 1 3 0 0 0 ∷ q 5 0 3 0 0 0 ∷ q 5 0 3 0 0 0 ∷ q 0 0 0 0 0 0 ∷ []) [] 1 7 (because (cleared_by 1))
    ∷ why_case (q 6 1 3 0 0 0 ∷ q 6 1 3 0 7 0 ∷ q 0 0 0 0 0 0 ∷ q 5 0 3 0 0 0 ∷ []) [] 1 7 (because (cleared_by 2))
    ∷ why_case (q 5 0 3 0 0 0 ∷ q 0 0 0 0 0 0 ∷ []) [] 1 7 (because never)
    ∷ []

agrees_whys7 : WhysAgree whys7
unfolding whys7 why history accesses_from written read_record replay replay_records access bench sound fresh_card read_dword write_dword
agrees_whys7 = refl

whys8 : List WhyCase
whys8 =
    why_case (q 6 0 1 0 5 0 ∷ q 5 1 1 0 0 0 ∷ q 6 0 1 0 6 0 ∷ []) [] 0 6 (because (held (holding 6 2 ∷ [])))
    ∷ why_case (q 6 1 3 0 0 0 ∷ q 12 0 0 0 4294967295 0 ∷ []) [] 0 7 (because (held (holding 0 0 ∷ [])))
    ∷ why_case (q 6 1 0 0 1 0 ∷ q 6 0 2 0 2 0 ∷ q 6 1 3 0 3 0 ∷ []) [] 1 6 (because never)
    ∷ why_case (q 6 0 1 0 9 0 ∷ q 6 1 3 0 8 0 ∷ q 0 0 0 0 0 0 ∷ q 6 0 1 0 7 0 ∷ []) [] 0 7 (because (cleared_by 2))
    ∷ why_case (q 6 1 1 0 4 0 ∷ q 6 0 1 0 3 0 ∷ q 5 0 1 0 0 0 ∷ q 6 0 1 0 0 0 ∷ q 5 1 2 0 0 0 ∷ q 6 0 1 0 3 0 ∷ q 5 1 1 0 0 0 ∷ q 13 0 0 0 0 0 ∷ q 6 0 1 0 0 0 ∷ []) [] 1 6 (because (held (holding 0 3 ∷ holding 3 5 ∷ holding 0 8 ∷ [])))
    ∷ []

agrees_whys8 : WhysAgree whys8
unfolding whys8 why history accesses_from written read_record replay replay_records access bench sound fresh_card read_dword write_dword
agrees_whys8 = refl
