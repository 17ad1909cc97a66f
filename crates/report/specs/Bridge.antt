-- What contracts of report cite: the line for standard error.
use Rattle.std.specs.Prelude.{Bool, List, [], ◌∷◌, ◌++◌, ℕ, if◌then◌else◌}
use Rattle.model.specs.Text.{field_text}

-- 114 101 97 100 105 110 103 spells `reading`, and 119 114 105 116 105 110 103 `writing`
abbrev pub call_text : (reading : Bool) → List ℕ
call_text reading = if reading then 114 ∷ 101 ∷ 97 ∷ 100 ∷ 105 ∷ 110 ∷ 103 ∷ [] else 119 ∷ 114 ∷ 105 ∷ 116 ∷ 105 ∷ 110 ∷ 103 ∷ []

-- what standard error gets (our rule): `reading failed after N records`, or `writing failed after N records`
unfoldable pub failed_text : (reading : Bool) → (count : ℕ) → List ℕ
failed_text reading count =
    call_text reading
    ++ (32 ∷ 102 ∷ 97 ∷ 105 ∷ 108 ∷ 101 ∷ 100 ∷ 32 ∷ 97 ∷ 102 ∷ 116 ∷ 101 ∷ 114 ∷ 32 ∷ [])
    ++ field_text count 32
    ++ (114 ∷ 101 ∷ 99 ∷ 111 ∷ 114 ∷ 100 ∷ 115 ∷ 10 ∷ [])
