-- Writing by a layout: which numbers the rows accept, and their bytes.
use Rattle.std.specs.Prelude.{ℕ, Bool, true, false, cond, List, [], ◌∷◌, ◌++◌, eqb}
use Rattle.byte_layout.specs.declared.Row.{Row}
use Rattle.byte_layout.specs.Numbers.{bytes}
use Rattle.byte_layout.specs.Rows.{stands, within}

-- the bytes of one row
unfoldable pub field : Bool → Row → ℕ → List ℕ
field true r x = bytes r.width x
field false r x = []

-- the bytes of the numbers ws, after the numbers vs
unfoldable pub payload : List Row → List ℕ → List ℕ → List ℕ
payload [] vs ws = []
payload (r ∷ rs) vs [] = []
payload (r ∷ rs) vs (x ∷ ws) = field (stands r vs) r x ++ payload rs (vs ++ (x ∷ [])) ws

-- a number that a row accepts: in its range, and 0 if the row is absent
unfoldable pub fits : Bool → Row → ℕ → Bool
fits true r x = within r x
fits false r x = eqb x 0

-- the numbers ws, after the numbers vs, are as many as the rows, and each row accepts its own
unfoldable pub fine : List Row → List ℕ → List ℕ → Bool
fine [] vs [] = true
fine [] vs (x ∷ ws) = false
fine (r ∷ rs) vs [] = false
fine (r ∷ rs) vs (x ∷ ws) = cond (fits (stands r vs) r x) (fine rs (vs ++ (x ∷ [])) ws) false
