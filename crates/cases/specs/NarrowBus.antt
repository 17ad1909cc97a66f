-- Written by the independent program, oracle/: a list of direct and register accesses and bursts with its answers, and what it leaves.
use Rattle.std.specs.Prelude.{refl, List, [], ◌∷◌}
use Rattle.model.specs.Lanes.{read_dword, write_dword}
use Rattle.model.specs.State.{World, sound, fresh_card, fresh_world}
use Rattle.model.specs.Accesses.{access}
use Rattle.model.specs.Registers.{register_access}
use Rattle.model.specs.Pins.{decode}
use Rattle.model.specs.Bursts.{burst}
use Rattle.model.specs.Bench.{r, d, p, bw, br, ◌gets◌, ◌gets◌leaving◌, CallCase}
use Rattle.cases.specs.Vectors.{settings, untouched, world, bytes, CallsAgree}

first : World
first = fresh_world (settings 268435456 32768 28672 32768) (bytes ((16384, []) ∷ [])) (bytes ((32768, []) ∷ []))

calls : List CallCase
calls =
    bw 1 0 0 (p 8 51 ∷ p 12 68 ∷ p 0 17 ∷ p 4 34 ∷ p 8 51 ∷ p 12 68 ∷ []) gets r 0 6 0
    ∷ d 1 1 0 0 0 0 gets r 0 1144193024 0
    ∷ d 1 1 0 4 0 0 gets r 0 1144201745 0
    ∷ bw 1 1 2 (p 8 17459 ∷ p 0 8721 ∷ p 8 17459 ∷ []) gets r 0 3 0
    ∷ d 1 1 0 8 0 0 gets r 0 1144193024 0
    ∷ d 1 1 0 12 0 0 gets r 0 1144201745 0
    ∷ bw 1 3 4 (p 3 1144193024 ∷ p 0 1144201745 ∷ []) gets r 0 2 0
    ∷ d 1 1 0 16 0 0 gets r 0 1144193024 0
    ∷ d 1 1 0 20 0 0 gets r 0 1144201745 0
    ∷ br 1 0 1 (p 0 0 ∷ p 4 0 ∷ p 8 0 ∷ p 12 0 ∷ []) (0 ∷ 0 ∷ 0 ∷ 0 ∷ []) gets r 0 4 0 leaving (17 ∷ 8704 ∷ 3342336 ∷ 1140850688 ∷ [])
    ∷ br 1 3 1 (p 0 0 ∷ []) (0 ∷ []) gets r 0 1 0 leaving (1144201745 ∷ [])
    ∷ bw 1 0 1 (p 0 0 ∷ []) gets r 0 1 0
    ∷ d 1 1 0 4 0 0 gets r 0 1144201728 0
    ∷ bw 1 3 6 (p 15 85 ∷ p 0 102 ∷ []) gets r 0 2 0
    ∷ d 1 1 0 24 0 0 gets r 0 0 0
    ∷ d 1 1 0 28 0 0 gets r 0 102 0
    ∷ bw 1 3 4095 (p 0 119 ∷ p 0 136 ∷ []) gets r 13 1 0
    ∷ d 1 1 0 16380 0 0 gets r 0 119 0
    ∷ []

last : World
last =
    world
    (untouched (settings 268435456 32768 28672 32768))
    (bytes ((2, 51 ∷ 68 ∷ 0 ∷ 34 ∷ 51 ∷ 68 ∷ 0 ∷ 0 ∷ 51 ∷ 68 ∷ 17 ∷ 34 ∷ 51 ∷ 68 ∷ 0 ∷ 0 ∷ 51 ∷ 68 ∷ 17 ∷ 34 ∷ 51 ∷ 68 ∷ 0 ∷ 0 ∷ 0 ∷ 0 ∷ 102 ∷ []) ∷ (16351, 119 ∷ 0 ∷ 0 ∷ 0 ∷ []) ∷ []))
    (bytes ((32768, []) ∷ []))

agrees : CallsAgree first calls last
unfolding first calls last access register_access sound fresh_card read_dword write_dword burst decode
agrees = refl
