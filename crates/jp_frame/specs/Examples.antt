-- Four small frames, each of three items. Their columns are written as lists: item i has its value in row r at place r.
use Rattle.std.specs.Prelude.{ℕ, zero, suc, ◌==◌, nat_lt, Bool, false, List, [], ◌∷◌, Option, Some, None}
use Rattle.jp_frame.specs.Maps.{Map, at}
use Rattle.jp_frame.specs.Frames.{Frame, Left, Semi}
use Rattle.jp_frame.specs.Steps.{By, step_test}
use Rattle.jp_frame.specs.Methods.{HashRight, Merge, scan_test}
use Rattle.jp_frame.specs.Trees.{Tree, Scan, Join}

-- the n-th of a list, or the one that is given
abbrev pub nth : {X : Type 0} → X → List X → ℕ → X
nth other [] n = other
nth other (x ∷ xs) zero = x
nth other (x ∷ xs) (suc n) = nth other xs n

abbrev pub no_test : Map → Bool
no_test m = false

-- the value of an item's row in a column; of an absent item it is NULL
abbrev pub value_in : List ℕ → Option ℕ → Option ℕ
value_in column (Some r) = Some (nth 0 column r)
value_in column None = None

abbrev pub same_value : Option ℕ → Option ℕ → Bool
same_value (Some a) (Some b) = a == b
same_value _ _ = false

abbrev pub value_or : ℕ → Option ℕ → Option ℕ
value_or n (Some a) = Some a
value_or n None = Some n

abbrev pub is_below : ℕ → Option ℕ → Bool
is_below n (Some a) = nat_lt a n
is_below n None = false

abbrev pub equal_at : List ℕ → ℕ → List ℕ → ℕ → Map → Bool
equal_at column i other j m = same_value (value_in column (at m i)) (value_in other (at m j))

-- COALESCE (value of item i, n) = value of item j
abbrev pub equal_or_at : ℕ → List ℕ → ℕ → List ℕ → ℕ → Map → Bool
equal_or_at n column i other j m = same_value (value_or n (value_in column (at m i))) (value_in other (at m j))

abbrev pub below_at : ℕ → List ℕ → ℕ → Map → Bool
below_at n column i m = is_below n (value_in column (at m i))

-- a LEFT JOIN b ON a.x = b.x LEFT JOIN c ON b.y = c.y: the second join needs b alone
abbrev pub two_left_joins : Frame
two_left_joins = record {
  items = 3;
  rows = nth 0 (3 ∷ 2 ∷ 2 ∷ []);
  joins = 2;
  kind = nth Left [];
  left = nth 0 (1 ∷ 2 ∷ []);
  right = nth 0 (2 ∷ 4 ∷ []);
  on = nth no_test (equal_at (1 ∷ 2 ∷ 3 ∷ []) 0 (1 ∷ 2 ∷ []) 1 ∷ equal_at (7 ∷ 8 ∷ []) 1 (7 ∷ 7 ∷ []) 2 ∷ []);
  on_uses = nth 0 (3 ∷ 6 ∷ []);
  clauses = 0;
  region = nth 0 [];
  needs = nth 0 [];
  holds = nth no_test [];
  uses = nth 0 [];
}

-- a LEFT JOIN b ON a.x = b.x LEFT JOIN c ON COALESCE(b.y, 7) = c.y: the second join needs the first
abbrev pub null_kept : Frame
null_kept = record two_left_joins {
  left = nth 0 (1 ∷ 3 ∷ []);
  on = nth no_test (equal_at (1 ∷ 2 ∷ 3 ∷ []) 0 (1 ∷ 2 ∷ []) 1 ∷ equal_or_at 7 (7 ∷ 8 ∷ []) 1 (7 ∷ 7 ∷ []) 2 ∷ []);
}

-- a LEFT JOIN (b WHERE EXISTS (c WHERE b.y = c.y)) ON a.x = b.x: the left join needs the semijoin
abbrev pub semi_inside : Frame
semi_inside = record {
  items = 3;
  rows = nth 0 (2 ∷ 2 ∷ 2 ∷ []);
  joins = 2;
  kind = nth Left (Semi ∷ []);
  left = nth 0 (2 ∷ 1 ∷ []);
  right = nth 0 (4 ∷ 6 ∷ []);
  on = nth no_test (equal_at (7 ∷ 8 ∷ []) 1 (7 ∷ 7 ∷ []) 2 ∷ equal_at (1 ∷ 2 ∷ []) 0 (1 ∷ 2 ∷ []) 1 ∷ []);
  on_uses = nth 0 (6 ∷ 3 ∷ []);
  clauses = 0;
  region = nth 0 [];
  needs = nth 0 [];
  holds = nth no_test [];
  uses = nth 0 [];
}

-- a LEFT JOIN (b LEFT JOIN c ON b.y = c.y) ON a.x = b.x WHERE a.x < 5: c hangs on b
abbrev pub hanging : Frame
hanging = record {
  items = 3;
  rows = nth 0 (3 ∷ 2 ∷ 2 ∷ []);
  joins = 2;
  kind = nth Left [];
  left = nth 0 (2 ∷ 1 ∷ []);
  right = nth 0 (4 ∷ 2 ∷ []);
  on = nth no_test (equal_at (7 ∷ 8 ∷ []) 1 (7 ∷ 9 ∷ []) 2 ∷ equal_at (1 ∷ 2 ∷ 5 ∷ []) 0 (1 ∷ 3 ∷ []) 1 ∷ []);
  on_uses = nth 0 (6 ∷ 3 ∷ []);
  clauses = 1;
  region = nth 0 [];
  needs = nth 0 (1 ∷ []);
  holds = nth no_test (below_at 5 (1 ∷ 2 ∷ 5 ∷ []) 0 ∷ []);
  uses = nth 0 (1 ∷ []);
}

-- a joined to the join of b and c, which hangs c on b: right maps first, and then sorted by row numbers, the last row first
abbrev pub number_of : Option ℕ → ℕ
number_of (Some r) = suc r
number_of None = 0

abbrev pub later_at : ℕ → Map → Map → Bool
later_at i m n = nat_lt (number_of (at n i)) (number_of (at m i))

abbrev pub bushy : Tree
bushy = Join (Merge (later_at 0) (later_at 1)) (By 1) (step_test hanging 1 6) (Scan 0 (scan_test hanging 0)) (Join HashRight (By 0) (step_test hanging 2 4) (Scan 1 (scan_test hanging 1)) (Scan 2 (scan_test hanging 2)))
