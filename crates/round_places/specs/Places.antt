-- The table of the A points by place, and its views (see src/lib.rt). Not to be believed: proofs/Rule ties it to the A points.
--   listed              the table
--   left_in o, down_in o  whether view o looks to the left, and down: 1, else 0
--   x_in o m e, y_in      how far column m and row e of view o are along x, and along y
--   ahead_of o, back_of o how far one column of view o is in the table, onwards or back;  rise_of, fall_of, one row
--   index_of o m e       where column m and row e of view o stand in the table;  number_at o m e, the number there, 254 or 255 for none
--   Wide u              u is a width that the table has a rim for
--   stand_x w, stand_y w  the coordinates of point w, counted from 95 below zero
--   rim_of u o i         entry i of the rim of width u in view o;  column_of, its column;  top_of, the last row of that
--   first_of u o         the rim's first column
use Rattle.std.specs.Prelude.{ℕ, ◌+◌, ◌-◌, ◌*◌, ◌/◌, ◌%◌, ◌≤◌, cond, List, [], ◌∷◌, eqb, ℤ, pos, negsuc, get_or}
use Rattle.points.specs.Points.{a_point}

unfoldable pub listed : List ℕ
listed =
    254 ∷ 255 ∷ 254 ∷ 255 ∷ 254 ∷ 255 ∷ 254 ∷ 251 ∷ 240 ∷ 238 ∷ 244 ∷ 255 ∷ 255 ∷ 254 ∷ 255 ∷ 254 ∷ 255 ∷ 254 ∷ 255 ∷
    254 ∷ 255 ∷ 254 ∷ 255 ∷ 254 ∷ 232 ∷ 210 ∷ 199 ∷ 190 ∷ 186 ∷ 194 ∷ 203 ∷ 222 ∷ 243 ∷ 255 ∷ 254 ∷ 255 ∷ 254 ∷ 255 ∷
    254 ∷ 255 ∷ 254 ∷ 249 ∷ 214 ∷ 183 ∷ 167 ∷ 152 ∷ 144 ∷ 142 ∷ 148 ∷ 158 ∷ 177 ∷ 201 ∷ 229 ∷ 255 ∷ 254 ∷ 255 ∷ 254 ∷
    255 ∷ 254 ∷ 250 ∷ 205 ∷ 175 ∷ 149 ∷ 128 ∷ 113 ∷ 106 ∷ 103 ∷ 108 ∷ 119 ∷ 135 ∷ 160 ∷ 189 ∷ 226 ∷ 255 ∷ 254 ∷ 255 ∷
    254 ∷ 255 ∷ 215 ∷ 176 ∷ 139 ∷ 115 ∷ 94 ∷ 80 ∷ 73 ∷ 69 ∷ 75 ∷ 84 ∷ 102 ∷ 126 ∷ 156 ∷ 193 ∷ 234 ∷ 254 ∷ 255 ∷
    254 ∷ 233 ∷ 184 ∷ 150 ∷ 116 ∷ 89 ∷ 67 ∷ 52 ∷ 45 ∷ 43 ∷ 50 ∷ 60 ∷ 77 ∷ 98 ∷ 131 ∷ 165 ∷ 206 ∷ 255 ∷ 254 ∷
    255 ∷ 211 ∷ 169 ∷ 130 ∷ 95 ∷ 68 ∷ 47 ∷ 33 ∷ 25 ∷ 22 ∷ 28 ∷ 39 ∷ 55 ∷ 79 ∷ 110 ∷ 146 ∷ 185 ∷ 236 ∷ 254 ∷
    252 ∷ 200 ∷ 153 ∷ 114 ∷ 82 ∷ 53 ∷ 34 ∷ 19 ∷ 11 ∷ 9 ∷ 13 ∷ 24 ∷ 41 ∷ 64 ∷ 96 ∷ 133 ∷ 173 ∷ 224 ∷ 255 ∷
    241 ∷ 192 ∷ 145 ∷ 107 ∷ 74 ∷ 46 ∷ 27 ∷ 12 ∷ 3 ∷ 1 ∷ 6 ∷ 17 ∷ 35 ∷ 58 ∷ 87 ∷ 123 ∷ 164 ∷ 216 ∷ 254 ∷
    239 ∷ 188 ∷ 143 ∷ 105 ∷ 70 ∷ 44 ∷ 23 ∷ 10 ∷ 2 ∷ 0 ∷ 4 ∷ 15 ∷ 31 ∷ 54 ∷ 83 ∷ 121 ∷ 162 ∷ 212 ∷ 255 ∷
    246 ∷ 196 ∷ 151 ∷ 109 ∷ 76 ∷ 51 ∷ 29 ∷ 14 ∷ 7 ∷ 5 ∷ 8 ∷ 20 ∷ 37 ∷ 62 ∷ 92 ∷ 125 ∷ 170 ∷ 218 ∷ 254 ∷
    255 ∷ 204 ∷ 159 ∷ 120 ∷ 86 ∷ 61 ∷ 40 ∷ 26 ∷ 18 ∷ 16 ∷ 21 ∷ 30 ∷ 48 ∷ 71 ∷ 100 ∷ 137 ∷ 181 ∷ 228 ∷ 254 ∷
    255 ∷ 223 ∷ 178 ∷ 136 ∷ 104 ∷ 78 ∷ 57 ∷ 42 ∷ 36 ∷ 32 ∷ 38 ∷ 49 ∷ 65 ∷ 90 ∷ 117 ∷ 154 ∷ 197 ∷ 247 ∷ 254 ∷
    255 ∷ 245 ∷ 202 ∷ 161 ∷ 129 ∷ 99 ∷ 81 ∷ 66 ∷ 59 ∷ 56 ∷ 63 ∷ 72 ∷ 91 ∷ 112 ∷ 140 ∷ 179 ∷ 220 ∷ 254 ∷ 255 ∷
    254 ∷ 255 ∷ 231 ∷ 191 ∷ 157 ∷ 132 ∷ 111 ∷ 97 ∷ 88 ∷ 85 ∷ 93 ∷ 101 ∷ 118 ∷ 141 ∷ 172 ∷ 207 ∷ 253 ∷ 254 ∷ 255 ∷
    254 ∷ 255 ∷ 254 ∷ 227 ∷ 195 ∷ 168 ∷ 147 ∷ 134 ∷ 124 ∷ 122 ∷ 127 ∷ 138 ∷ 155 ∷ 180 ∷ 208 ∷ 242 ∷ 255 ∷ 254 ∷ 255 ∷
    254 ∷ 255 ∷ 254 ∷ 255 ∷ 235 ∷ 209 ∷ 187 ∷ 174 ∷ 166 ∷ 163 ∷ 171 ∷ 182 ∷ 198 ∷ 221 ∷ 254 ∷ 254 ∷ 255 ∷ 254 ∷ 255 ∷
    254 ∷ 255 ∷ 254 ∷ 255 ∷ 254 ∷ 255 ∷ 237 ∷ 225 ∷ 217 ∷ 213 ∷ 219 ∷ 230 ∷ 248 ∷ 254 ∷ 255 ∷ 254 ∷ 255 ∷ 254 ∷ 255 ∷
    254 ∷ 255 ∷ 254 ∷ 255 ∷ 254 ∷ 255 ∷ 254 ∷ 255 ∷ 254 ∷ 255 ∷ 254 ∷ 255 ∷ 254 ∷ 255 ∷ 254 ∷ 255 ∷ 254 ∷ 255 ∷ 254 ∷
    3 ∷ 18 ∷ 34 ∷ 34 ∷ 2 ∷ 18 ∷ 34 ∷ 48 ∷ 3 ∷ 19 ∷ 34 ∷ 34 ∷ 2 ∷ 18 ∷ 34 ∷ 49 ∷
    3 ∷ 18 ∷ 34 ∷ 49 ∷ 3 ∷ 19 ∷ 34 ∷ 48 ∷ 3 ∷ 19 ∷ 34 ∷ 49 ∷ 3 ∷ 19 ∷ 34 ∷ 49 ∷
    20 ∷ 35 ∷ 50 ∷ 65 ∷ 20 ∷ 35 ∷ 50 ∷ 65 ∷ 20 ∷ 36 ∷ 51 ∷ 65 ∷ 20 ∷ 35 ∷ 51 ∷ 66 ∷
    20 ∷ 35 ∷ 51 ∷ 66 ∷ 20 ∷ 36 ∷ 51 ∷ 65 ∷ 20 ∷ 36 ∷ 51 ∷ 66 ∷ 20 ∷ 36 ∷ 51 ∷ 66 ∷
    53 ∷ 68 ∷ 83 ∷ 97 ∷ 53 ∷ 68 ∷ 83 ∷ 97 ∷ 53 ∷ 68 ∷ 83 ∷ 97 ∷ 53 ∷ 68 ∷ 83 ∷ 98 ∷
    53 ∷ 68 ∷ 84 ∷ 98 ∷ 53 ∷ 69 ∷ 83 ∷ 97 ∷ 53 ∷ 69 ∷ 84 ∷ 98 ∷ 53 ∷ 69 ∷ 84 ∷ 98 ∷
    87 ∷ 102 ∷ 117 ∷ 131 ∷ 87 ∷ 102 ∷ 117 ∷ 131 ∷ 87 ∷ 102 ∷ 117 ∷ 131 ∷ 102 ∷ 117 ∷ 132 ∷ 145 ∷
    102 ∷ 117 ∷ 132 ∷ 146 ∷ 87 ∷ 102 ∷ 117 ∷ 131 ∷ 103 ∷ 118 ∷ 132 ∷ 146 ∷ 103 ∷ 118 ∷ 132 ∷ 146 ∷
    96 ∷ 96 ∷ 92 ∷ 96 ∷ 96 ∷ 92 ∷ 92 ∷ 92 ∷ 96 ∷ 100 ∷ 100 ∷ 96 ∷ 92 ∷ 100 ∷ 100 ∷ 92 ∷
    100 ∷ 100 ∷ 88 ∷ 96 ∷ 96 ∷ 88 ∷ 88 ∷ 92 ∷ 92 ∷ 88 ∷ 88 ∷ 100 ∷ 100 ∷ 88 ∷ 96 ∷ 104 ∷ []

abbrev pub left_in : ℕ → ℕ
left_in o = o / 4

abbrev pub down_in : ℕ → ℕ
down_in o = o / 2 % 2

-- a in a view along x, b in one along y
abbrev pub along : ℕ → ℕ → ℕ → ℕ
along o a b = cond (eqb (o % 2) 1) b a

abbrev pub x_in : ℕ → ℕ → ℕ → ℕ
x_in o m e = along o m e

abbrev pub y_in : ℕ → ℕ → ℕ → ℕ
y_in o m e = along o e m

abbrev pub ahead_of : ℕ → ℕ
ahead_of o = along o (19 * (1 - left_in o)) (1 - down_in o)

abbrev pub back_of : ℕ → ℕ
back_of o = along o (19 * left_in o) (down_in o)

abbrev pub rise_of : ℕ → ℕ
rise_of o = along o (1 - down_in o) (19 * (1 - left_in o))

abbrev pub fall_of : ℕ → ℕ
fall_of o = along o (down_in o) (19 * left_in o)

abbrev pub index_of : ℕ → ℕ → ℕ → ℕ
index_of o m e = 180 + (ahead_of o * m + rise_of o * e) - (back_of o * m + fall_of o * e)

unfoldable pub number_at : ℕ → ℕ → ℕ → ℕ
number_at o m e = get_or listed (index_of o m e) 0

abbrev pub stand_of : ℤ → ℕ
stand_of (pos n) = 95 + n
stand_of (negsuc n) = 94 - n

unfoldable pub stand_x : ℕ → ℕ
stand_x w = stand_of (a_point w).x

unfoldable pub stand_y : ℕ → ℕ
stand_y w = stand_of (a_point w).y

pub record Wide (u : ℕ) : Type 0 where
  pub low : 5 ≤ u
  pub high : u ≤ 8

unfoldable pub rim_of : ℕ → ℕ → ℕ → ℕ
rim_of u o i = get_or listed (361 + ((u - 5) * 8 + o) * 4 + i) 0

abbrev pub column_of : ℕ → ℕ → ℕ → ℕ
column_of u o i = rim_of u o i / 16

abbrev pub top_of : ℕ → ℕ → ℕ → ℕ
top_of u o i = rim_of u o i % 16

abbrev pub first_of : ℕ → ℕ → ℕ
first_of u o = column_of u o 0
