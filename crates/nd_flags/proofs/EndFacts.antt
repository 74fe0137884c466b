-- Rows of numbers one behind another in one list: their number, one of them, and one more.
use Rattle.std.proofs.Common.{◌≡◌, ◌≤◌, ◌<◌, ◌-◌, ℕ, suc, zero, List, [], ◌∷◌, ◌++◌, length, get_or, take, drop, refl, ap, sym, ◌∙◌, arith, length-append}
use Rattle.std.proofs.lemmas.List.{take-append-le, take_all, drop-append-le, length-drop, drop_at, get_or_past, get_or_read}
use Rattle.std.specs.List.{slice_range}
use Rattle.nd_flags.specs.Ends.{rows_in, Rise, AreEnds}

pub length_of_rows : (items : List ℕ) (from : ℕ) (ends : List ℕ) → length (rows_in items from ends) ≡ length ends
length_of_rows items from [] = refl
length_of_rows items from (end ∷ ends) = ap suc (length_of_rows items end ends)

-- the first row begins within the whole
begins_within : (from whole : ℕ) (ends : List ℕ) → Rise from whole ends → from ≤ whole
begins_within from whole [] rise = omega (arith, rise)
begins_within from whole (end ∷ ends) rise = omega (arith, rise.0, begins_within end whole ends rise.1)

-- a row ends within the whole
ends_within : (from whole : ℕ) (ends : List ℕ) (k : ℕ) → Rise from whole ends → k < length ends → get_or ends k 0 ≤ whole
ends_within from whole [] k rise inside = absurd (omega (arith, inside))
ends_within from whole (end ∷ ends) zero rise inside = begins_within end whole ends rise.1
ends_within from whole (end ∷ ends) (suc k) rise inside = ends_within end whole ends k rise.1 (omega (arith, inside))

-- no row ends before it begins
ends_behind : (from whole : ℕ) (ends : List ℕ) (k : ℕ) → Rise from whole ends → k < length ends
    → get_or (from ∷ ends) k 0 ≤ get_or ends k 0
ends_behind from whole [] k rise inside = absurd (omega (arith, inside))
ends_behind from whole (end ∷ ends) zero rise inside = rise.0
ends_behind from whole (end ∷ ends) (suc k) rise inside = ends_behind end whole ends k rise.1 (omega (arith, inside))

pub row_of : (items : List ℕ) (from : ℕ) (ends : List ℕ) (k : ℕ) → k < length ends
    → get_or (rows_in items from ends) k [] ≡ slice_range items (get_or (from ∷ ends) k 0) (get_or ends k 0)
row_of items from [] k inside = absurd (omega (arith, inside))
row_of items from (end ∷ ends) zero inside = refl
row_of items from (end ∷ ends) (suc k) inside = row_of items end ends k (omega (arith, inside))

-- ---- at rows as a method reads them
pub rows_counted : (items ends : List ℕ) (rows : List (List ℕ)) → rows_in items 0 ends ≡ rows → length ends ≡ length rows
rows_counted items ends rows is = sym (length_of_rows items 0 ends) ∙ ap length is

pub row_past : (items ends : List ℕ) (rows : List (List ℕ)) (k : ℕ) → rows_in items 0 ends ≡ rows → length ends ≤ k → get_or rows k [] ≡ []
row_past items ends rows k is past = get_or_past rows k [] (omega (arith, past, rows_counted items ends rows is))

pub row_begins : (items ends : List ℕ) (k begin end : ℕ) → AreEnds items ends → k < length ends → begin ≡ get_or (0 ∷ ends) k 0
    → end ≡ get_or ends k end → begin ≤ end
row_begins items ends k begin end are inside is_begin is_end =
    omega (arith, ends_behind 0 (length items) ends k are.rise inside, is_begin, get_or_read ends k end inside is_end 0)

pub row_ends : (items ends : List ℕ) (k end : ℕ) → AreEnds items ends → k < length ends → end ≡ get_or ends k end → end ≤ length items
row_ends items ends k end are inside is_end =
    omega (arith, ends_within 0 (length items) ends k are.rise inside, get_or_read ends k end inside is_end 0)

pub row_is : (items ends : List ℕ) (rows : List (List ℕ)) (k begin end : ℕ) → rows_in items 0 ends ≡ rows → k < length ends
    → begin ≡ get_or (0 ∷ ends) k 0 → end ≡ get_or ends k end → slice_range items begin end ≡ get_or rows k []
row_is items ends rows k begin end is inside is_begin is_end =
    ap (λ b. slice_range items b end) is_begin
    ∙ ap (slice_range items (get_or (0 ∷ ends) k 0)) (get_or_read ends k end inside is_end 0)
    ∙ sym (row_of items 0 ends k inside) ∙ ap (λ rs. get_or rs k []) is

-- ---- one row more
Rise-more : (from whole end : ℕ) (ends : List ℕ) → Rise from whole ends → whole ≤ end → Rise from end (ends ++ end ∷ [])
Rise-more from whole end [] rise on = (omega (arith, rise, on), refl)
Rise-more from whole end (e ∷ ends) rise on = (rise.0, Rise-more e whole end ends rise.1 on)

-- a row is as it was, whatever comes behind the numbers
range_stays : (items row : List ℕ) (from end : ℕ) → from ≤ end → end ≤ length items
    → slice_range (items ++ row) from end ≡ slice_range items from end
range_stays items row from end rises within =
    ap (take (end - from)) (drop-append-le from items row (omega (arith, rises, within)))
    ∙ take-append-le (end - from) (drop from items) row (omega (arith, rises, within, length-drop from items))

last_row : (items row : List ℕ) (from : ℕ) → from ≡ length items → slice_range (items ++ row) from (length (items ++ row)) ≡ row
last_row items row from is =
    ap (take (length (items ++ row) - from)) (drop_at items row from (sym is))
    ∙ take_all (length (items ++ row) - from) row (omega (arith, is, length-append items row))

rows_more : (items row : List ℕ) (from : ℕ) (ends : List ℕ) → Rise from (length items) ends
    → rows_in (items ++ row) from (ends ++ length (items ++ row) ∷ []) ≡ rows_in items from ends ++ row ∷ []
rows_more items row from [] rise = ap (λ r. r ∷ []) (last_row items row from rise)
rows_more items row from (end ∷ ends) rise =
    ap (λ r. r ∷ rows_in (items ++ row) end (ends ++ length (items ++ row) ∷ []))
    (range_stays items row from end rise.0 (begins_within end (length items) ends rise.1))
    ∙ ap (λ rows. slice_range items from end ∷ rows) (rows_more items row end ends rise.1)

pub ends_more : (items row ends : List ℕ) → AreEnds items ends → AreEnds (items ++ row) (ends ++ length (items ++ row) ∷ [])
ends_more items row ends are = record {
  rise = Rise-more 0 (length items) (length (items ++ row)) ends are.rise (omega (arith, length-append items row));
}

pub row_more : (items row ends : List ℕ) (rows : List (List ℕ)) → AreEnds items ends → rows_in items 0 ends ≡ rows
    → rows_in (items ++ row) 0 (ends ++ length (items ++ row) ∷ []) ≡ rows ++ row ∷ []
row_more items row ends rows are is = rows_more items row 0 ends are.rise ∙ ap (λ rs. rs ++ row ∷ []) is
