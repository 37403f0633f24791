-- Written by tools/grammar_tables.py: what is known of each form, in their order.
use Rattle.std.specs.Prelude.{true, false, List, [], ◌∷◌}
use Rattle.sh_grammar.specs.Predictive.{Facts}

unfoldable pub the_facts : List Facts
the_facts =
    record { empty = true; begins = false; first = 3 ∷ 26 ∷ 136 ∷ 137 ∷ 139 ∷ 140 ∷ 143 ∷ []; follow = 10 ∷ []; weight = 8; depth = 2 } ∷
    record { empty = true; begins = false; first = 3 ∷ 26 ∷ []; follow = 10 ∷ 136 ∷ 137 ∷ 139 ∷ 140 ∷ 143 ∷ []; weight = 3; depth = 0 } ∷
    record { empty = true; begins = false; first = 136 ∷ 137 ∷ 139 ∷ 140 ∷ 143 ∷ []; follow = 10 ∷ []; weight = 4; depth = 1 } ∷
    record { empty = true; begins = false; first = 2 ∷ []; follow = 21 ∷ []; weight = 1; depth = 0 } ∷
    record { empty = true; begins = false; first = 137 ∷ 139 ∷ 140 ∷ 143 ∷ []; follow = 10 ∷ 22 ∷ []; weight = 3; depth = 0 } ∷
    record { empty = false; begins = false; first = 3 ∷ 26 ∷ []; follow = 3 ∷ 10 ∷ 26 ∷ 136 ∷ 137 ∷ 139 ∷ 140 ∷ 143 ∷ []; weight = 2; depth = 2 } ∷
    record { empty = false; begins = false; first = 3 ∷ 26 ∷ []; follow = 11 ∷ 13 ∷ 20 ∷ []; weight = 1; depth = 0 } ∷
    record { empty = false; begins = false; first = 99 ∷ []; follow = 3 ∷ 10 ∷ 11 ∷ 20 ∷ 26 ∷ 136 ∷ 137 ∷ 139 ∷ 140 ∷ 143 ∷ []; weight = 1; depth = 1 } ∷
    record { empty = true; begins = false; first = 0 ∷ 27 ∷ 28 ∷ 29 ∷ 30 ∷ 31 ∷ 32 ∷ 33 ∷ 34 ∷ 35 ∷ 36 ∷ 37 ∷ 38 ∷ 39 ∷ 40 ∷ 41 ∷ 42 ∷ 43 ∷ 44 ∷ 45 ∷ 46 ∷ 47 ∷ 48 ∷ 49 ∷ 50 ∷ 51 ∷ 52 ∷ 53 ∷ 54 ∷ 55 ∷ 56 ∷ 57 ∷ 58 ∷ 59 ∷ 60 ∷ 61 ∷ 62 ∷ 63 ∷ 64 ∷ 65 ∷ 66 ∷ 67 ∷ 68 ∷ 69 ∷ 70 ∷ 71 ∷ 72 ∷ 73 ∷ 74 ∷ 75 ∷ 76 ∷ 77 ∷ 78 ∷ 79 ∷ 80 ∷ 81 ∷ 82 ∷ 83 ∷ 84 ∷ 85 ∷ 86 ∷ 87 ∷ 88 ∷ 89 ∷ 90 ∷ 91 ∷ 92 ∷ 93 ∷ 94 ∷ 95 ∷ 96 ∷ 97 ∷ 98 ∷ 99 ∷ 100 ∷ 101 ∷ 102 ∷ 103 ∷ 104 ∷ 105 ∷ 106 ∷ 107 ∷ 108 ∷ 109 ∷ 110 ∷ 111 ∷ 112 ∷ 113 ∷ 114 ∷ 115 ∷ 116 ∷ 117 ∷ 118 ∷ 119 ∷ 120 ∷ 121 ∷ 122 ∷ 123 ∷ 124 ∷ 125 ∷ 126 ∷ 127 ∷ 128 ∷ 129 ∷ 130 ∷ 131 ∷ 132 ∷ 133 ∷ 134 ∷ 135 ∷ 136 ∷ 137 ∷ 138 ∷ 139 ∷ 140 ∷ 141 ∷ 142 ∷ 143 ∷ 144 ∷ 145 ∷ 146 ∷ 147 ∷ 148 ∷ 149 ∷ 150 ∷ 151 ∷ 152 ∷ []; follow = 15 ∷ []; weight = 2; depth = 0 } ∷
    record { empty = true; begins = false; first = 11 ∷ []; follow = 15 ∷ []; weight = 1; depth = 0 } ∷
    record { empty = false; begins = false; first = 0 ∷ 27 ∷ 28 ∷ 29 ∷ 30 ∷ 31 ∷ 32 ∷ 33 ∷ 34 ∷ 35 ∷ 36 ∷ 37 ∷ 38 ∷ 39 ∷ 40 ∷ 41 ∷ 42 ∷ 43 ∷ 44 ∷ 45 ∷ 46 ∷ 47 ∷ 48 ∷ 49 ∷ 50 ∷ 51 ∷ 52 ∷ 53 ∷ 54 ∷ 55 ∷ 56 ∷ 57 ∷ 58 ∷ 59 ∷ 60 ∷ 61 ∷ 62 ∷ 63 ∷ 64 ∷ 65 ∷ 66 ∷ 67 ∷ 68 ∷ 69 ∷ 70 ∷ 71 ∷ 72 ∷ 73 ∷ 74 ∷ 75 ∷ 76 ∷ 77 ∷ 78 ∷ 79 ∷ 80 ∷ 81 ∷ 82 ∷ 83 ∷ 84 ∷ 85 ∷ 86 ∷ 87 ∷ 88 ∷ 89 ∷ 90 ∷ 91 ∷ 92 ∷ 93 ∷ 94 ∷ 95 ∷ 96 ∷ 97 ∷ 98 ∷ 99 ∷ 100 ∷ 101 ∷ 102 ∷ 103 ∷ 104 ∷ 105 ∷ 106 ∷ 107 ∷ 108 ∷ 109 ∷ 110 ∷ 111 ∷ 112 ∷ 113 ∷ 114 ∷ 115 ∷ 116 ∷ 117 ∷ 118 ∷ 119 ∷ 120 ∷ 121 ∷ 122 ∷ 123 ∷ 124 ∷ 125 ∷ 126 ∷ 127 ∷ 128 ∷ 129 ∷ 130 ∷ 131 ∷ 132 ∷ 133 ∷ 134 ∷ 135 ∷ 136 ∷ 137 ∷ 138 ∷ 139 ∷ 140 ∷ 141 ∷ 142 ∷ 143 ∷ 144 ∷ 145 ∷ 146 ∷ 147 ∷ 148 ∷ 149 ∷ 150 ∷ 151 ∷ 152 ∷ []; follow = 11 ∷ 15 ∷ []; weight = 1; depth = 0 } ∷
    record { empty = false; begins = false; first = 137 ∷ 139 ∷ 140 ∷ 143 ∷ []; follow = 10 ∷ 22 ∷ 137 ∷ 139 ∷ 140 ∷ 143 ∷ []; weight = 2; depth = 1 } ∷
    record { empty = false; begins = false; first = 6 ∷ 7 ∷ []; follow = 15 ∷ []; weight = 1; depth = 0 } ∷
    record { empty = true; begins = false; first = 37 ∷ []; follow = 15 ∷ []; weight = 3; depth = 0 } ∷
    record { empty = true; begins = false; first = 11 ∷ []; follow = 15 ∷ []; weight = 1; depth = 0 } ∷
    record { empty = false; begins = false; first = 37 ∷ []; follow = 11 ∷ 15 ∷ []; weight = 2; depth = 2 } ∷
    record { empty = false; begins = false; first = 140 ∷ []; follow = 143 ∷ []; weight = 1; depth = 1 } ∷
    record { empty = true; begins = false; first = 27 ∷ 28 ∷ 29 ∷ 30 ∷ 31 ∷ 32 ∷ []; follow = 15 ∷ []; weight = 4; depth = 0 } ∷
    record { empty = true; begins = false; first = 11 ∷ []; follow = 15 ∷ []; weight = 1; depth = 0 } ∷
    record { empty = false; begins = false; first = 27 ∷ 28 ∷ 29 ∷ 30 ∷ 31 ∷ 32 ∷ []; follow = 11 ∷ 15 ∷ []; weight = 3; depth = 2 } ∷
    record { empty = true; begins = false; first = 141 ∷ []; follow = 11 ∷ 12 ∷ 15 ∷ 142 ∷ []; weight = 2; depth = 0 } ∷
    record { empty = false; begins = false; first = 141 ∷ []; follow = 11 ∷ 12 ∷ 15 ∷ 142 ∷ []; weight = 1; depth = 2 } ∷
    record { empty = true; begins = false; first = 142 ∷ []; follow = 11 ∷ 12 ∷ 15 ∷ []; weight = 2; depth = 0 } ∷
    record { empty = false; begins = false; first = 142 ∷ []; follow = 11 ∷ 12 ∷ 15 ∷ []; weight = 1; depth = 2 } ∷
    record { empty = false; begins = false; first = 143 ∷ []; follow = 10 ∷ 22 ∷ 137 ∷ 139 ∷ 140 ∷ 143 ∷ []; weight = 1; depth = 3 } ∷
    record { empty = true; begins = false; first = 144 ∷ 145 ∷ []; follow = 2 ∷ []; weight = 1; depth = 0 } ∷
    record { empty = true; begins = false; first = 1 ∷ []; follow = 15 ∷ []; weight = 2; depth = 0 } ∷
    record { empty = true; begins = false; first = 11 ∷ []; follow = 15 ∷ []; weight = 1; depth = 0 } ∷
    record { empty = false; begins = false; first = 1 ∷ []; follow = 11 ∷ 15 ∷ []; weight = 1; depth = 2 } ∷
    record { empty = true; begins = false; first = 18 ∷ []; follow = 21 ∷ []; weight = 1; depth = 0 } ∷
    record { empty = false; begins = false; first = 14 ∷ 27 ∷ 28 ∷ 29 ∷ 30 ∷ 31 ∷ 32 ∷ []; follow = 21 ∷ []; weight = 3; depth = 1 } ∷
    record { empty = false; begins = true; first = 1 ∷ 146 ∷ 147 ∷ []; follow = 22 ∷ []; weight = 2; depth = 2 } ∷
    record { empty = false; begins = true; first = 146 ∷ 147 ∷ []; follow = 22 ∷ []; weight = 1; depth = 1 } ∷
    record { empty = true; begins = false; first = 1 ∷ 12 ∷ []; follow = 22 ∷ []; weight = 2; depth = 0 } ∷
    record { empty = false; begins = false; first = 27 ∷ 28 ∷ 29 ∷ 30 ∷ 31 ∷ 32 ∷ []; follow = 1 ∷ 11 ∷ 15 ∷ 18 ∷ 21 ∷ 22 ∷ 38 ∷ 43 ∷ 80 ∷ 98 ∷ 146 ∷ 147 ∷ []; weight = 2; depth = 1 } ∷
    record { empty = true; begins = false; first = 7 ∷ 24 ∷ []; follow = 27 ∷ 29 ∷ 30 ∷ 31 ∷ 32 ∷ []; weight = 2; depth = 0 } ∷
    record { empty = false; begins = false; first = 7 ∷ 24 ∷ []; follow = 7 ∷ 24 ∷ 27 ∷ 29 ∷ 30 ∷ 31 ∷ 32 ∷ []; weight = 1; depth = 0 } ∷
    record { empty = false; begins = false; first = 27 ∷ 29 ∷ 30 ∷ 31 ∷ 32 ∷ []; follow = 1 ∷ 11 ∷ 15 ∷ 17 ∷ 18 ∷ 21 ∷ 22 ∷ 38 ∷ 43 ∷ 80 ∷ 98 ∷ 146 ∷ 147 ∷ []; weight = 1; depth = 0 } ∷
    record { empty = true; begins = false; first = 27 ∷ 28 ∷ 29 ∷ 30 ∷ 31 ∷ 32 ∷ []; follow = 15 ∷ 18 ∷ 22 ∷ []; weight = 3; depth = 0 } ∷
    record { empty = true; begins = false; first = 11 ∷ []; follow = 15 ∷ 18 ∷ 22 ∷ []; weight = 1; depth = 0 } ∷
    record { empty = true; begins = false; first = 1 ∷ []; follow = 12 ∷ 15 ∷ 129 ∷ []; weight = 1; depth = 0 } ∷
    record { empty = true; begins = false; first = 11 ∷ []; follow = 12 ∷ 15 ∷ 129 ∷ []; weight = 1; depth = 0 } ∷
    record { empty = false; begins = false; first = 37 ∷ []; follow = 12 ∷ []; weight = 1; depth = 1 } ∷
    record { empty = true; begins = false; first = 6 ∷ 8 ∷ 19 ∷ 23 ∷ 39 ∷ 40 ∷ []; follow = 17 ∷ []; weight = 3; depth = 0 } ∷
    record { empty = false; begins = false; first = 6 ∷ 19 ∷ 23 ∷ 39 ∷ 40 ∷ []; follow = 11 ∷ 17 ∷ 20 ∷ []; weight = 2; depth = 0 } ∷
    record { empty = true; begins = false; first = 6 ∷ 19 ∷ 23 ∷ 39 ∷ 40 ∷ []; follow = 20 ∷ []; weight = 3; depth = 0 } ∷
    record { empty = true; begins = false; first = 11 ∷ []; follow = 20 ∷ []; weight = 1; depth = 0 } ∷
    record { empty = false; begins = false; first = 6 ∷ 23 ∷ []; follow = 11 ∷ 12 ∷ 17 ∷ 20 ∷ 126 ∷ []; weight = 1; depth = 0 } ∷
    record { empty = false; begins = false; first = 19 ∷ []; follow = 1 ∷ 11 ∷ 12 ∷ 14 ∷ 15 ∷ 19 ∷ 20 ∷ 106 ∷ 108 ∷ 110 ∷ 112 ∷ 121 ∷ 124 ∷ 129 ∷ 131 ∷ 134 ∷ 142 ∷ 146 ∷ 147 ∷ []; weight = 1; depth = 1 } ∷
    record { empty = true; begins = false; first = 6 ∷ 23 ∷ []; follow = 20 ∷ []; weight = 2; depth = 0 } ∷
    record { empty = true; begins = false; first = 11 ∷ []; follow = 20 ∷ []; weight = 1; depth = 0 } ∷
    record { empty = false; begins = false; first = 19 ∷ []; follow = 11 ∷ 12 ∷ 15 ∷ 83 ∷ 141 ∷ 142 ∷ []; weight = 1; depth = 1 } ∷
    record { empty = true; begins = false; first = 19 ∷ []; follow = 20 ∷ []; weight = 2; depth = 0 } ∷
    record { empty = true; begins = false; first = 11 ∷ []; follow = 20 ∷ []; weight = 1; depth = 0 } ∷
    record { empty = false; begins = true; first = 1 ∷ []; follow = 1 ∷ 146 ∷ 147 ∷ []; weight = 1; depth = 4 } ∷
    record { empty = false; begins = true; first = 35 ∷ 36 ∷ 41 ∷ 42 ∷ 44 ∷ 45 ∷ 46 ∷ 47 ∷ 48 ∷ 49 ∷ 50 ∷ 51 ∷ 52 ∷ 53 ∷ 54 ∷ 55 ∷ 56 ∷ 57 ∷ 58 ∷ 59 ∷ 60 ∷ 61 ∷ 62 ∷ 63 ∷ 74 ∷ 75 ∷ 76 ∷ 77 ∷ 78 ∷ 79 ∷ 81 ∷ 82 ∷ 84 ∷ 85 ∷ 86 ∷ 87 ∷ 88 ∷ 89 ∷ 90 ∷ 92 ∷ 94 ∷ 95 ∷ 105 ∷ 107 ∷ 109 ∷ 111 ∷ 120 ∷ 123 ∷ 127 ∷ 128 ∷ 132 ∷ 135 ∷ 148 ∷ 149 ∷ []; follow = 1 ∷ 146 ∷ 147 ∷ []; weight = 4; depth = 3 } ∷
    record { empty = false; begins = false; first = 45 ∷ []; follow = 1 ∷ 146 ∷ 147 ∷ []; weight = 1; depth = 2 } ∷
    record { empty = false; begins = false; first = 78 ∷ []; follow = 1 ∷ 146 ∷ 147 ∷ []; weight = 1; depth = 2 } ∷
    record { empty = false; begins = false; first = 79 ∷ []; follow = 1 ∷ 146 ∷ 147 ∷ []; weight = 1; depth = 2 } ∷
    record { empty = false; begins = false; first = 81 ∷ []; follow = 1 ∷ 146 ∷ 147 ∷ []; weight = 1; depth = 2 } ∷
    record { empty = false; begins = false; first = 82 ∷ []; follow = 1 ∷ 146 ∷ 147 ∷ []; weight = 1; depth = 2 } ∷
    record { empty = false; begins = false; first = 35 ∷ 44 ∷ 84 ∷ 85 ∷ 86 ∷ 87 ∷ 88 ∷ 89 ∷ []; follow = 1 ∷ 146 ∷ 147 ∷ []; weight = 2; depth = 2 } ∷
    record { empty = false; begins = false; first = 35 ∷ 44 ∷ 84 ∷ 85 ∷ 86 ∷ 87 ∷ 88 ∷ 89 ∷ []; follow = 33 ∷ []; weight = 1; depth = 0 } ∷
    record { empty = false; begins = false; first = 90 ∷ []; follow = 1 ∷ 146 ∷ 147 ∷ []; weight = 1; depth = 2 } ∷
    record { empty = false; begins = false; first = 92 ∷ []; follow = 1 ∷ 146 ∷ 147 ∷ []; weight = 1; depth = 2 } ∷
    record { empty = false; begins = false; first = 94 ∷ []; follow = 1 ∷ 146 ∷ 147 ∷ []; weight = 1; depth = 3 } ∷
    record { empty = false; begins = false; first = 95 ∷ []; follow = 1 ∷ 146 ∷ 147 ∷ []; weight = 1; depth = 3 } ∷
    record { empty = false; begins = false; first = 42 ∷ []; follow = 1 ∷ 146 ∷ 147 ∷ []; weight = 1; depth = 2 } ∷
    record { empty = false; begins = false; first = 41 ∷ []; follow = 1 ∷ 146 ∷ 147 ∷ []; weight = 1; depth = 2 } ∷
    record { empty = false; begins = false; first = 105 ∷ []; follow = 1 ∷ 146 ∷ 147 ∷ []; weight = 1; depth = 2 } ∷
    record { empty = false; begins = false; first = 107 ∷ []; follow = 1 ∷ 146 ∷ 147 ∷ []; weight = 1; depth = 2 } ∷
    record { empty = false; begins = false; first = 109 ∷ []; follow = 1 ∷ 146 ∷ 147 ∷ []; weight = 1; depth = 2 } ∷
    record { empty = false; begins = false; first = 111 ∷ []; follow = 1 ∷ 146 ∷ 147 ∷ []; weight = 1; depth = 2 } ∷
    record { empty = false; begins = false; first = 120 ∷ []; follow = 1 ∷ 146 ∷ 147 ∷ []; weight = 1; depth = 2 } ∷
    record { empty = false; begins = false; first = 123 ∷ []; follow = 1 ∷ 146 ∷ 147 ∷ []; weight = 1; depth = 2 } ∷
    record { empty = false; begins = false; first = 127 ∷ []; follow = 1 ∷ 146 ∷ 147 ∷ []; weight = 1; depth = 3 } ∷
    record { empty = false; begins = false; first = 128 ∷ []; follow = 1 ∷ 146 ∷ 147 ∷ []; weight = 1; depth = 2 } ∷
    record { empty = false; begins = false; first = 132 ∷ []; follow = 1 ∷ 146 ∷ 147 ∷ []; weight = 1; depth = 2 } ∷
    record { empty = false; begins = false; first = 135 ∷ []; follow = 1 ∷ 146 ∷ 147 ∷ []; weight = 1; depth = 2 } ∷
    record { empty = false; begins = false; first = 148 ∷ 149 ∷ []; follow = 1 ∷ 146 ∷ 147 ∷ []; weight = 2; depth = 2 } ∷
    record { empty = false; begins = false; first = 148 ∷ 149 ∷ []; follow = 2 ∷ []; weight = 1; depth = 0 } ∷
    record { empty = false; begins = true; first = 36 ∷ 46 ∷ 47 ∷ 48 ∷ 49 ∷ 50 ∷ 51 ∷ 52 ∷ 53 ∷ 54 ∷ 55 ∷ 56 ∷ 57 ∷ 58 ∷ 59 ∷ 60 ∷ 61 ∷ 62 ∷ 63 ∷ 74 ∷ 75 ∷ 76 ∷ 77 ∷ []; follow = 1 ∷ 98 ∷ 146 ∷ 147 ∷ []; weight = 3; depth = 2 } ∷
    record { empty = false; begins = false; first = 36 ∷ []; follow = 1 ∷ 98 ∷ 146 ∷ 147 ∷ []; weight = 1; depth = 1 } ∷
    record { empty = false; begins = false; first = 6 ∷ 23 ∷ 37 ∷ 39 ∷ 40 ∷ []; follow = 1 ∷ 98 ∷ 146 ∷ 147 ∷ []; weight = 2; depth = 0 } ∷
    record { empty = false; begins = false; first = 46 ∷ 47 ∷ 48 ∷ 49 ∷ 50 ∷ 51 ∷ 52 ∷ 53 ∷ 54 ∷ 55 ∷ 56 ∷ 57 ∷ 58 ∷ 59 ∷ 60 ∷ 61 ∷ 62 ∷ []; follow = 1 ∷ 98 ∷ 146 ∷ 147 ∷ []; weight = 2; depth = 2 } ∷
    record { empty = false; begins = false; first = 46 ∷ 47 ∷ 48 ∷ 49 ∷ 50 ∷ 51 ∷ 52 ∷ 53 ∷ 54 ∷ 55 ∷ 56 ∷ 57 ∷ 58 ∷ 59 ∷ 60 ∷ 61 ∷ 62 ∷ []; follow = 1 ∷ []; weight = 1; depth = 0 } ∷
    record { empty = false; begins = false; first = 63 ∷ []; follow = 1 ∷ 98 ∷ 146 ∷ 147 ∷ []; weight = 1; depth = 2 } ∷
    record { empty = false; begins = false; first = 64 ∷ 65 ∷ 66 ∷ 67 ∷ 68 ∷ 69 ∷ 70 ∷ 71 ∷ 72 ∷ 73 ∷ []; follow = 11 ∷ []; weight = 1; depth = 0 } ∷
    record { empty = false; begins = false; first = 74 ∷ []; follow = 1 ∷ 98 ∷ 146 ∷ 147 ∷ []; weight = 1; depth = 2 } ∷
    record { empty = true; begins = false; first = 11 ∷ []; follow = 1 ∷ 98 ∷ 146 ∷ 147 ∷ []; weight = 1; depth = 0 } ∷
    record { empty = false; begins = false; first = 75 ∷ 76 ∷ 77 ∷ []; follow = 1 ∷ 98 ∷ 146 ∷ 147 ∷ []; weight = 2; depth = 2 } ∷
    record { empty = false; begins = false; first = 75 ∷ 76 ∷ 77 ∷ []; follow = 1 ∷ []; weight = 1; depth = 0 } ∷
    record { empty = false; begins = false; first = 33 ∷ []; follow = 34 ∷ []; weight = 1; depth = 1 } ∷
    record { empty = true; begins = false; first = 33 ∷ []; follow = 34 ∷ []; weight = 2; depth = 0 } ∷
    record { empty = false; begins = false; first = 34 ∷ []; follow = 18 ∷ 21 ∷ 91 ∷ 93 ∷ []; weight = 1; depth = 1 } ∷
    record { empty = false; begins = false; first = 21 ∷ 33 ∷ []; follow = 1 ∷ 146 ∷ 147 ∷ []; weight = 2; depth = 2 } ∷
    record { empty = false; begins = true; first = 46 ∷ 48 ∷ 49 ∷ 50 ∷ 51 ∷ 52 ∷ 53 ∷ 54 ∷ 55 ∷ []; follow = 21 ∷ 22 ∷ []; weight = 1; depth = 0 } ∷
    record { empty = true; begins = false; first = 21 ∷ []; follow = 22 ∷ []; weight = 2; depth = 0 } ∷
    record { empty = false; begins = false; first = 21 ∷ []; follow = 22 ∷ []; weight = 1; depth = 0 } ∷
    record { empty = false; begins = true; first = 1 ∷ 98 ∷ []; follow = 22 ∷ []; weight = 2; depth = 2 } ∷
    record { empty = false; begins = true; first = 1 ∷ []; follow = 1 ∷ 98 ∷ []; weight = 1; depth = 3 } ∷
    record { empty = false; begins = true; first = 1 ∷ 98 ∷ []; follow = 22 ∷ []; weight = 2; depth = 2 } ∷
    record { empty = false; begins = true; first = 1 ∷ []; follow = 1 ∷ 98 ∷ []; weight = 1; depth = 2 } ∷
    record { empty = false; begins = true; first = 36 ∷ 46 ∷ 47 ∷ 48 ∷ 49 ∷ 50 ∷ 51 ∷ 52 ∷ 53 ∷ 54 ∷ 55 ∷ 56 ∷ 57 ∷ 58 ∷ 59 ∷ 60 ∷ 61 ∷ 62 ∷ 63 ∷ 74 ∷ 75 ∷ 76 ∷ 77 ∷ 150 ∷ 151 ∷ []; follow = 1 ∷ 98 ∷ []; weight = 4; depth = 1 } ∷
    record { empty = false; begins = false; first = 150 ∷ []; follow = 1 ∷ 98 ∷ []; weight = 1; depth = 0 } ∷
    record { empty = false; begins = false; first = 151 ∷ []; follow = 1 ∷ 98 ∷ []; weight = 1; depth = 1 } ∷
    record { empty = false; begins = true; first = 98 ∷ []; follow = 22 ∷ []; weight = 1; depth = 1 } ∷
    record { empty = true; begins = false; first = 1 ∷ []; follow = 15 ∷ []; weight = 2; depth = 0 } ∷
    record { empty = true; begins = false; first = 11 ∷ []; follow = 15 ∷ []; weight = 1; depth = 0 } ∷
    record { empty = false; begins = false; first = 1 ∷ []; follow = 11 ∷ 15 ∷ []; weight = 1; depth = 1 } ∷
    record { empty = true; begins = false; first = 3 ∷ 26 ∷ 99 ∷ []; follow = 20 ∷ []; weight = 3; depth = 0 } ∷
    record { empty = true; begins = false; first = 11 ∷ []; follow = 20 ∷ []; weight = 1; depth = 0 } ∷
    record { empty = false; begins = false; first = 3 ∷ 26 ∷ 99 ∷ []; follow = 11 ∷ 20 ∷ []; weight = 2; depth = 1 } ∷
    record { empty = true; begins = false; first = 8 ∷ []; follow = 20 ∷ []; weight = 1; depth = 0 } ∷
    record { empty = true; begins = false; first = 11 ∷ []; follow = 20 ∷ []; weight = 1; depth = 0 } ∷
    record { empty = false; begins = false; first = 103 ∷ []; follow = 12 ∷ 106 ∷ 108 ∷ 110 ∷ 112 ∷ 121 ∷ 124 ∷ 129 ∷ []; weight = 1; depth = 1 } ∷
    record { empty = true; begins = false; first = 104 ∷ []; follow = 12 ∷ 106 ∷ 108 ∷ 110 ∷ 112 ∷ 121 ∷ 124 ∷ 129 ∷ []; weight = 1; depth = 0 } ∷
    record { empty = true; begins = false; first = 110 ∷ []; follow = 12 ∷ 112 ∷ []; weight = 1; depth = 0 } ∷
    record { empty = false; begins = false; first = 16 ∷ 113 ∷ 114 ∷ 115 ∷ 116 ∷ 117 ∷ 118 ∷ 119 ∷ []; follow = 12 ∷ 112 ∷ []; weight = 2; depth = 1 } ∷
    record { empty = false; begins = false; first = 113 ∷ 114 ∷ 115 ∷ 116 ∷ 117 ∷ 118 ∷ 119 ∷ []; follow = 12 ∷ 17 ∷ 112 ∷ []; weight = 1; depth = 0 } ∷
    record { empty = true; begins = false; first = 102 ∷ []; follow = 12 ∷ []; weight = 1; depth = 0 } ∷
    record { empty = true; begins = false; first = 126 ∷ []; follow = 12 ∷ []; weight = 1; depth = 0 } ∷
    []
