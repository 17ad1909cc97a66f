-- Written by the independent program, oracle/: bay labels and bay indexes.
use Rattle.std.specs.Prelude.{refl, List, [], ◌∷◌}
use Rattle.model.specs.Bays.{at, no_bay}
use Rattle.cases.specs.Vectors.{BayCase, bay_case, BaysAgree}

-- number; the label of the bay that has it as index, 0 for none; the index of the bay that has it as label
cases : List BayCase
cases =
    bay_case 0 1 no_bay
    ∷ bay_case 1 7 (at 0)
    ∷ bay_case 2 13 (at 4)
    ∷ bay_case 3 19 (at 8)
    ∷ bay_case 4 2 (at 12)
    ∷ bay_case 5 8 (at 16)
    ∷ bay_case 6 14 (at 20)
    ∷ bay_case 7 20 (at 1)
    ∷ bay_case 8 3 (at 5)
    ∷ bay_case 9 9 (at 9)
    ∷ bay_case 10 15 (at 13)
    ∷ bay_case 11 21 (at 17)
    ∷ bay_case 12 4 (at 21)
    ∷ bay_case 13 10 (at 2)
    ∷ bay_case 14 16 (at 6)
    ∷ bay_case 15 22 (at 10)
    ∷ bay_case 16 5 (at 14)
    ∷ bay_case 17 11 (at 18)
    ∷ bay_case 18 17 (at 22)
    ∷ bay_case 19 23 (at 3)
    ∷ bay_case 20 6 (at 7)
    ∷ bay_case 21 12 (at 11)
    ∷ bay_case 22 18 (at 15)
    ∷ bay_case 23 24 (at 19)
    ∷ bay_case 24 0 (at 23)
    ∷ bay_case 25 0 no_bay
    ∷ bay_case 26 0 no_bay
    ∷ bay_case 27 0 no_bay
    ∷ bay_case 28 0 no_bay
    ∷ bay_case 29 0 no_bay
    ∷ bay_case 30 0 no_bay
    ∷ bay_case 31 0 no_bay
    ∷ bay_case 32 0 no_bay
    ∷ bay_case 33 0 no_bay
    ∷ bay_case 34 0 no_bay
    ∷ bay_case 35 0 no_bay
    ∷ bay_case 36 0 no_bay
    ∷ bay_case 37 0 no_bay
    ∷ bay_case 38 0 no_bay
    ∷ bay_case 39 0 no_bay
    ∷ bay_case 40 0 no_bay
    ∷ bay_case 41 0 no_bay
    ∷ bay_case 42 0 no_bay
    ∷ bay_case 43 0 no_bay
    ∷ bay_case 44 0 no_bay
    ∷ bay_case 45 0 no_bay
    ∷ bay_case 46 0 no_bay
    ∷ bay_case 47 0 no_bay
    ∷ bay_case 48 0 no_bay
    ∷ bay_case 49 0 no_bay
    ∷ bay_case 50 0 no_bay
    ∷ bay_case 51 0 no_bay
    ∷ bay_case 52 0 no_bay
    ∷ bay_case 53 0 no_bay
    ∷ bay_case 54 0 no_bay
    ∷ bay_case 55 0 no_bay
    ∷ bay_case 56 0 no_bay
    ∷ bay_case 57 0 no_bay
    ∷ bay_case 58 0 no_bay
    ∷ bay_case 59 0 no_bay
    ∷ bay_case 60 0 no_bay
    ∷ bay_case 61 0 no_bay
    ∷ bay_case 62 0 no_bay
    ∷ bay_case 63 0 no_bay
    ∷ bay_case 64 0 no_bay
    ∷ bay_case 65 0 no_bay
    ∷ bay_case 66 0 no_bay
    ∷ bay_case 67 0 no_bay
    ∷ bay_case 68 0 no_bay
    ∷ bay_case 69 0 no_bay
    ∷ bay_case 70 0 no_bay
    ∷ bay_case 71 0 no_bay
    ∷ bay_case 72 0 no_bay
    ∷ bay_case 73 0 no_bay
    ∷ bay_case 74 0 no_bay
    ∷ bay_case 75 0 no_bay
    ∷ bay_case 76 0 no_bay
    ∷ bay_case 77 0 no_bay
    ∷ bay_case 78 0 no_bay
    ∷ bay_case 79 0 no_bay
    ∷ bay_case 80 0 no_bay
    ∷ bay_case 81 0 no_bay
    ∷ bay_case 82 0 no_bay
    ∷ bay_case 83 0 no_bay
    ∷ bay_case 84 0 no_bay
    ∷ bay_case 85 0 no_bay
    ∷ bay_case 86 0 no_bay
    ∷ bay_case 87 0 no_bay
    ∷ bay_case 88 0 no_bay
    ∷ bay_case 89 0 no_bay
    ∷ bay_case 90 0 no_bay
    ∷ bay_case 91 0 no_bay
    ∷ bay_case 92 0 no_bay
    ∷ bay_case 93 0 no_bay
    ∷ bay_case 94 0 no_bay
    ∷ bay_case 95 0 no_bay
    ∷ bay_case 96 0 no_bay
    ∷ bay_case 97 0 no_bay
    ∷ bay_case 98 0 no_bay
    ∷ bay_case 99 0 no_bay
    ∷ bay_case 100 0 no_bay
    ∷ bay_case 101 0 no_bay
    ∷ bay_case 102 0 no_bay
    ∷ bay_case 103 0 no_bay
    ∷ bay_case 104 0 no_bay
    ∷ bay_case 105 0 no_bay
    ∷ bay_case 106 0 no_bay
    ∷ bay_case 107 0 no_bay
    ∷ bay_case 108 0 no_bay
    ∷ bay_case 109 0 no_bay
    ∷ bay_case 110 0 no_bay
    ∷ bay_case 111 0 no_bay
    ∷ bay_case 112 0 no_bay
    ∷ bay_case 113 0 no_bay
    ∷ bay_case 114 0 no_bay
    ∷ bay_case 115 0 no_bay
    ∷ bay_case 116 0 no_bay
    ∷ bay_case 117 0 no_bay
    ∷ bay_case 118 0 no_bay
    ∷ bay_case 119 0 no_bay
    ∷ bay_case 120 0 no_bay
    ∷ bay_case 121 0 no_bay
    ∷ bay_case 122 0 no_bay
    ∷ bay_case 123 0 no_bay
    ∷ bay_case 124 0 no_bay
    ∷ bay_case 125 0 no_bay
    ∷ bay_case 126 0 no_bay
    ∷ bay_case 127 0 no_bay
    ∷ bay_case 128 0 no_bay
    ∷ bay_case 129 0 no_bay
    ∷ bay_case 130 0 no_bay
    ∷ bay_case 131 0 no_bay
    ∷ bay_case 132 0 no_bay
    ∷ bay_case 133 0 no_bay
    ∷ bay_case 134 0 no_bay
    ∷ bay_case 135 0 no_bay
    ∷ bay_case 136 0 no_bay
    ∷ bay_case 137 0 no_bay
    ∷ bay_case 138 0 no_bay
    ∷ bay_case 139 0 no_bay
    ∷ bay_case 140 0 no_bay
    ∷ bay_case 141 0 no_bay
    ∷ bay_case 142 0 no_bay
    ∷ bay_case 143 0 no_bay
    ∷ bay_case 144 0 no_bay
    ∷ bay_case 145 0 no_bay
    ∷ bay_case 146 0 no_bay
    ∷ bay_case 147 0 no_bay
    ∷ bay_case 148 0 no_bay
    ∷ bay_case 149 0 no_bay
    ∷ bay_case 150 0 no_bay
    ∷ bay_case 151 0 no_bay
    ∷ bay_case 152 0 no_bay
    ∷ bay_case 153 0 no_bay
    ∷ bay_case 154 0 no_bay
    ∷ bay_case 155 0 no_bay
    ∷ bay_case 156 0 no_bay
    ∷ bay_case 157 0 no_bay
    ∷ bay_case 158 0 no_bay
    ∷ bay_case 159 0 no_bay
    ∷ bay_case 160 0 no_bay
    ∷ bay_case 161 0 no_bay
    ∷ bay_case 162 0 no_bay
    ∷ bay_case 163 0 no_bay
    ∷ bay_case 164 0 no_bay
    ∷ bay_case 165 0 no_bay
    ∷ bay_case 166 0 no_bay
    ∷ bay_case 167 0 no_bay
    ∷ bay_case 168 0 no_bay
    ∷ bay_case 169 0 no_bay
    ∷ bay_case 170 0 no_bay
    ∷ bay_case 171 0 no_bay
    ∷ bay_case 172 0 no_bay
    ∷ bay_case 173 0 no_bay
    ∷ bay_case 174 0 no_bay
    ∷ bay_case 175 0 no_bay
    ∷ bay_case 176 0 no_bay
    ∷ bay_case 177 0 no_bay
    ∷ bay_case 178 0 no_bay
    ∷ bay_case 179 0 no_bay
    ∷ bay_case 180 0 no_bay
    ∷ bay_case 181 0 no_bay
    ∷ bay_case 182 0 no_bay
    ∷ bay_case 183 0 no_bay
    ∷ bay_case 184 0 no_bay
    ∷ bay_case 185 0 no_bay
    ∷ bay_case 186 0 no_bay
    ∷ bay_case 187 0 no_bay
    ∷ bay_case 188 0 no_bay
    ∷ bay_case 189 0 no_bay
    ∷ bay_case 190 0 no_bay
    ∷ bay_case 191 0 no_bay
    ∷ bay_case 192 0 no_bay
    ∷ bay_case 193 0 no_bay
    ∷ bay_case 194 0 no_bay
    ∷ bay_case 195 0 no_bay
    ∷ bay_case 196 0 no_bay
    ∷ bay_case 197 0 no_bay
    ∷ bay_case 198 0 no_bay
    ∷ bay_case 199 0 no_bay
    ∷ bay_case 200 0 no_bay
    ∷ bay_case 201 0 no_bay
    ∷ bay_case 202 0 no_bay
    ∷ bay_case 203 0 no_bay
    ∷ bay_case 204 0 no_bay
    ∷ bay_case 205 0 no_bay
    ∷ bay_case 206 0 no_bay
    ∷ bay_case 207 0 no_bay
    ∷ bay_case 208 0 no_bay
    ∷ bay_case 209 0 no_bay
    ∷ bay_case 210 0 no_bay
    ∷ bay_case 211 0 no_bay
    ∷ bay_case 212 0 no_bay
    ∷ bay_case 213 0 no_bay
    ∷ bay_case 214 0 no_bay
    ∷ bay_case 215 0 no_bay
    ∷ bay_case 216 0 no_bay
    ∷ bay_case 217 0 no_bay
    ∷ bay_case 218 0 no_bay
    ∷ bay_case 219 0 no_bay
    ∷ bay_case 220 0 no_bay
    ∷ bay_case 221 0 no_bay
    ∷ bay_case 222 0 no_bay
    ∷ bay_case 223 0 no_bay
    ∷ bay_case 224 0 no_bay
    ∷ bay_case 225 0 no_bay
    ∷ bay_case 226 0 no_bay
    ∷ bay_case 227 0 no_bay
    ∷ bay_case 228 0 no_bay
    ∷ bay_case 229 0 no_bay
    ∷ bay_case 230 0 no_bay
    ∷ bay_case 231 0 no_bay
    ∷ bay_case 232 0 no_bay
    ∷ bay_case 233 0 no_bay
    ∷ bay_case 234 0 no_bay
    ∷ bay_case 235 0 no_bay
    ∷ bay_case 236 0 no_bay
    ∷ bay_case 237 0 no_bay
    ∷ bay_case 238 0 no_bay
    ∷ bay_case 239 0 no_bay
    ∷ bay_case 240 0 no_bay
    ∷ bay_case 241 0 no_bay
    ∷ bay_case 242 0 no_bay
    ∷ bay_case 243 0 no_bay
    ∷ bay_case 244 0 no_bay
    ∷ bay_case 245 0 no_bay
    ∷ bay_case 246 0 no_bay
    ∷ bay_case 247 0 no_bay
    ∷ bay_case 248 0 no_bay
    ∷ bay_case 249 0 no_bay
    ∷ bay_case 250 0 no_bay
    ∷ bay_case 251 0 no_bay
    ∷ bay_case 252 0 no_bay
    ∷ bay_case 253 0 no_bay
    ∷ bay_case 254 0 no_bay
    ∷ bay_case 255 0 no_bay
    ∷ []

agrees : BaysAgree cases
unfolding cases
agrees = refl
