-- What the two programs say on standard error, in ASCII. Assumes nothing.
use Rattle.std.specs.Prelude.{ℕ, List, [], ◌∷◌}

-- "cesr: standard input could not be read: nothing was judged"
unfoldable pub unread_line : List ℕ
unread_line =
    99 ∷ 101 ∷ 115 ∷ 114 ∷ 58 ∷ 32 ∷
    115 ∷ 116 ∷ 97 ∷ 110 ∷ 100 ∷ 97 ∷ 114 ∷ 100 ∷ 32 ∷
    105 ∷ 110 ∷ 112 ∷ 117 ∷ 116 ∷ 32 ∷
    99 ∷ 111 ∷ 117 ∷ 108 ∷ 100 ∷ 32 ∷
    110 ∷ 111 ∷ 116 ∷ 32 ∷
    98 ∷ 101 ∷ 32 ∷
    114 ∷ 101 ∷ 97 ∷ 100 ∷ 58 ∷ 32 ∷
    110 ∷ 111 ∷ 116 ∷ 104 ∷ 105 ∷ 110 ∷ 103 ∷ 32 ∷
    119 ∷ 97 ∷ 115 ∷ 32 ∷
    106 ∷ 117 ∷ 100 ∷ 103 ∷ 101 ∷ 100 ∷ 10 ∷ []

-- "cesr: standard output could not be written: the report is not whole"
unfoldable pub unwritten_line : List ℕ
unwritten_line =
    99 ∷ 101 ∷ 115 ∷ 114 ∷ 58 ∷ 32 ∷
    115 ∷ 116 ∷ 97 ∷ 110 ∷ 100 ∷ 97 ∷ 114 ∷ 100 ∷ 32 ∷
    111 ∷ 117 ∷ 116 ∷ 112 ∷ 117 ∷ 116 ∷ 32 ∷
    99 ∷ 111 ∷ 117 ∷ 108 ∷ 100 ∷ 32 ∷
    110 ∷ 111 ∷ 116 ∷ 32 ∷
    98 ∷ 101 ∷ 32 ∷
    119 ∷ 114 ∷ 105 ∷ 116 ∷ 116 ∷ 101 ∷ 110 ∷ 58 ∷ 32 ∷
    116 ∷ 104 ∷ 101 ∷ 32 ∷
    114 ∷ 101 ∷ 112 ∷ 111 ∷ 114 ∷ 116 ∷ 32 ∷
    105 ∷ 115 ∷ 32 ∷
    110 ∷ 111 ∷ 116 ∷ 32 ∷
    119 ∷ 104 ∷ 111 ∷ 108 ∷ 101 ∷ 10 ∷ []
