-- The generated input: the text of a world of 64 avatars on four cells, and so many lines that draws choose.
use Rattle.std.specs.Prelude.{ℕ, zero, suc, ◌+◌, ◌-◌, ◌*◌, ◌/◌, ◌%◌, ◌^◌, ◌==◌, Bool, nat_lt, List, [], ◌∷◌, ◌++◌, codes, decimal}
use Rattle.std.specs.Prelude.{if◌then◌else◌}
use Rattle.std.specs.List.{flat_map, range_with_len}

-- the next seed of the linear congruence, modulo 2^64
abbrev pub next_seed : ℕ → ℕ
next_seed x = (x * 6364136223846793005 + 1442695040888963407) % 2 ^ 64

-- a draw moves the seed on, and gives its upper 31 bits
abbrev pub draw : ℕ → ℕ
draw x = next_seed x / 2 ^ 33

-- a number as a further word of a line
abbrev pub field : ℕ → List ℕ
field n = 32 ∷ decimal n

-- the header's end, and three cuts that make four cells
abbrev pub cuts : List ℕ
cuts = codes "%%\ncut 0 x 5000\ncut 0 z 5000\ncut 1 z 5000\n"

-- the avatars are on a raster of eight columns, 1,250 apart, from 100 on
abbrev pub raster : ℕ → ℕ
raster i = 100 + 1250 * i

abbrev pub create_line : ℕ → List ℕ
create_line e = codes "create" ++ field e ++ codes " Avatar" ++ field (raster ((e - 1) % 8)) ++ field (raster ((e - 1) / 8)) ++ 10 ∷ []

abbrev pub client_line : ℕ → List ℕ
client_line e = codes "client" ++ field e ++ 10 ∷ []

-- 64 avatars, of which the first eight have clients
abbrev pub opening : List ℕ
opening = cuts ++ flat_map create_line (range_with_len 1 64) ++ flat_map client_line (range_with_len 1 8)

-- the entity of a draw
abbrev pub entity : ℕ → ℕ
entity d = 1 + d % 64

-- odd entities hear from base node 1, even ones from base node 2
abbrev pub sender : ℕ → List ℕ
sender e = if e % 2 == 1 then codes " b1" else codes " b2"

-- what is done: 0 and 1 are a move, 2 is a hit, 3 a healing
abbrev pub kind : ℕ → ℕ
kind d = d / 64 % 4

abbrev pub is_move : ℕ → Bool
is_move d = nat_lt (kind d) 2

-- the entity moves to where a second draw f puts it
abbrev pub move_line : ℕ → ℕ → List ℕ
move_line e f = codes "move" ++ sender e ++ field e ++ field (f % 10000) ++ field (f / 10000 % 10000) ++ 10 ∷ []

abbrev pub call_line : ℕ → List ℕ → ℕ → List ℕ
call_line e method amount = codes "call" ++ sender e ++ field e ++ method ++ field amount ++ 10 ∷ []

abbrev pub method_of : ℕ → List ℕ
method_of d = if kind d == 2 then codes " hit" else codes " heal"

-- the line that the next draws choose
abbrev pub drawn_line : ℕ → List ℕ
drawn_line x =
    if is_move (draw x) then move_line (entity (draw x)) (draw (next_seed x)) else call_line (entity (draw x)) (method_of (draw x))
    (draw x / 256 % 100)

-- the seed after those draws: a move needs two
abbrev pub seed_after : ℕ → ℕ
seed_after x = if is_move (draw x) then next_seed (next_seed x) else next_seed x

-- a sync after each thousandth line
abbrev pub sync_after : ℕ → List ℕ
sync_after k = if k % 1000 == 0 then codes "sync\n" else []

-- so many lines, of which the first has number k
abbrev pub lines_text : ℕ → ℕ → ℕ → List ℕ
lines_text zero k x = []
lines_text (suc left) k x = drawn_line x ++ sync_after k ++ lines_text left (k + 1) (seed_after x)

-- the generated input of n lines: n is the first seed too
abbrev pub text_of_storm : ℕ → List ℕ
text_of_storm n = opening ++ lines_text n 1 n
