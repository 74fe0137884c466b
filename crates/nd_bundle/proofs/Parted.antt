-- What was read of a text that comes in parts, put together.
use Rattle.std.proofs.Common.{◌≡◌, ℕ, ◌+◌, Bool, List, [], ◌∷◌, ◌++◌, length, map, Option, Some, None, Result, Ok, refl, sym, ap, ◌∙◌, subst, append_assoc}
use Rattle.std.proofs.lemmas.List.{append-nil}
use Rattle.std.specs.List.{AllZip}
use Rattle.std.specs.declared.alloc.AllocError.{AllocError}
use Rattle.nd_graph.specs.Walks.{AreDistinct}
use Rattle.nd_line.specs.declared.line.LineNode.{LineNode}
use Rattle.nd_line.specs.declared.refusal.LineError.{LineError}
use Rattle.nd_bundle.specs.Bundles.{IsFirstFault}
use Rattle.nd_links.specs.Columned.{HasDetails}
use Rattle.nd_bundle.specs.Said.{SayNumbered, SayNumbers}
use Rattle.nd_bundle.specs.Lines.{lines, lines_in}
use Rattle.nd_links.specs.Numbered.{fault_at}
use Rattle.nd_links.specs.Numbering.{AddsPaths, AreNoNumbers, HasNumbers, LacksNumbers}
use Rattle.nd_bundle.specs.Parts.{ArePieces, GoesOn, HasWholeLines, IsFaultBy, IsFaultOf, IsFoundFault, IsFoundIn, IsFoundNowhere, IsFoundNumbered, IsFoundTo, IsLineEnd, IsReadAsFar, IsReadBehind, IsReadFault, IsReadIn, IsReading, IsReadNowhere, IsReadNumbered, IsReadTo, IsReadUntil, IsRefusedAsFar, IsSpent, IsToldBy, IsUnread, ReadsLines, Takes, TakesAll}
use Rattle.nd_links.specs.Columned.{HasSameNodes, IsAppended}
use Rattle.nd_bundle.specs.Pieces.{IsReadText}
use Rattle.nd_bundle.specs.ReadingLines.{ReadingLines}
use Rattle.nd_bundle.specs.declared.gathered.Gathered.{Gathered}
use Rattle.nd_links.specs.declared.columns.Columns.{Columns}
use Rattle.nd_links.specs.declared.details.Details.{Details}
use Rattle.nd_links.specs.declared.fault.GraphError.{GraphError}
use Rattle.nd_links.specs.declared.fault.GraphError.TheVariants as bundle
use Rattle.nd_bundle.specs.declared.found.Found.{Found}
use Rattle.nd_bundle.specs.declared.found.Numbered.{Numbered}
use Rattle.nd_bundle.specs.declared.manner.Manner.{Manner}
use Rattle.nd_links.specs.declared.number.Numbers.{Numbers}
use Rattle.nd_bundle.specs.declared.piece.Piece.{Piece}
use Rattle.nd_bundle.specs.declared.reached.Reached.{Reached}
use Rattle.nd_bundle.proofs.Newlines.{line_ends, lines_in-append}
use Rattle.nd_bundle.proofs.Pieced.{fault_here}
use Rattle.nd_bundle.proofs.Said.{many_numbered, says_more}
use Rattle.nd_bundle.proofs.Told.{twice_fault}

-- ---- one piece

pub found_none : (found : Found) → found.refused ≡ None → AreNoNumbers found.numbers → ((whole : Bool) → HasDetails whole [] found.details) → IsFoundNowhere found
found_none found none empty has = record {
  nowhere = λ manner. subst (λ (r : Option GraphError). IsFoundTo manner [] found.numbers found.details r) (sym none) (record { nodes = []; says = tt; numbers_are = empty.none; has = has manner.whole });
}

-- what was found with no refusal
said : (manner : Manner) (ls : List (List ℕ)) (found : Found) → found.refused ≡ None → IsFoundIn manner ls found → SayNumbers manner ls found.numbers found.details
said manner ls found none so = subst (λ (r : Option GraphError). IsFoundTo manner ls found.numbers found.details r) none so

-- .. and with one
refusal : (manner : Manner) (ls : List (List ℕ)) (found : Found) (fault : GraphError) → found.refused ≡ Some fault → IsFoundIn manner ls found → IsFaultOf manner ls fault
refusal manner ls found fault is so = subst (λ (r : Option GraphError). IsFoundTo manner ls found.numbers found.details r) is so

-- a refusal stays the first one, whatever is behind
pub fault_still : (manner : Manner) (ls more : List (List ℕ)) (fault : GraphError) → IsFaultOf manner ls fault → IsFaultOf manner (ls ++ more) fault
fault_still manner ls more fault of = record { first = λ text behind parts. of.first text (more ++ behind) (parts ∙ append_assoc ls more behind) }

refused_still : (manner : Manner) (ls more : List (List ℕ)) (found : Found) (fault : GraphError) → found.refused ≡ Some fault → IsFoundIn manner ls found → IsFoundIn manner (ls ++ more) found
refused_still manner ls more found fault is so = subst (λ (r : Option GraphError). IsFoundTo manner (ls ++ more) found.numbers found.details r) (sym is) (fault_still manner ls more fault (refusal manner ls found fault is so))

pub passes : (old : Found) (read : Result Piece AllocError) (fault : GraphError) → old.refused ≡ Some fault → Takes old read old
passes old read fault is = record { taken = λ manner ls more so also. refused_still manner ls more old fault is so }

pub takes_said : (old new : Found) (columns : Columns) → old.refused ≡ None → new.refused ≡ None → AddsPaths old.numbers columns.paths.items new.numbers → IsAppended old.details columns.details new.details → Takes old (Ok (record { columns = columns; refused = None })) new
takes_said old new columns none still adds joined = record {
  taken = λ manner ls more so also.
      subst (λ (r : Option GraphError). IsFoundTo manner (ls ++ more) new.numbers new.details r) (sym still)
      (says_more manner ls more old.numbers new.numbers old.details new.details columns (said manner ls old none so) also adds joined);
}

pub takes_refused : (old new : Found) (columns : Columns) (fault : LineError) (error : GraphError) → old.refused ≡ None → new.refused ≡ Some error → error ≡ fault_at fault (length new.details.names.items + 1) → AddsPaths old.numbers columns.paths.items new.numbers
    → IsAppended old.details columns.details new.details → Takes old (Ok (record { columns = columns; refused = Some fault })) new
takes_refused old new columns fault error none is number adds joined = record {
  taken = λ manner ls more so up.
      subst (λ (r : Option GraphError). IsFoundTo manner (ls ++ more) new.numbers new.details r) (sym is) (record {
        first = λ text behind parts.
            let front : List (List ℕ) = ls ++ up.before in
            let rest : List (List ℕ) = up.behind ++ behind in
            let cut : more ++ behind ≡ up.before ++ up.line ∷ rest = ap (λ (xs : List (List ℕ)). xs ++ behind) up.parts ∙ append_assoc up.before (up.line ∷ up.behind) behind in
            let whole : lines text ≡ front ++ up.line ∷ rest = parts ∙ append_assoc ls more behind ∙ ap (λ (xs : List (List ℕ)). ls ++ xs) cut ∙ sym (append_assoc ls up.before (up.line ∷ rest)) in
            let says : SayNumbers manner front new.numbers new.details = says_more manner ls up.before old.numbers new.numbers old.details new.details columns (said manner ls old none so) up.says adds joined in
            subst (λ (e : GraphError). IsFirstFault manner.check text e) (sym number)
            (fault_here manner text front up.line rest says.nodes (length new.details.names.items) fault whole says.says (many_numbered manner front new.numbers new.details says) up.refused);
      });
}

-- ---- all pieces

-- the partner of an item that stands between others
record IsBetween {A B : Type 0} (R : A → B → Type 0) (xs : List A) (ys : List B) (y : B) : Type 0 where
  front : List A
  x : A
  behind : List A
  parts : xs ≡ front ++ x ∷ behind
  before : AllZip R front ys
  here : R x y

between : {A B : Type 0} (R : A → B → Type 0) (xs : List A) (ys : List B) (y : B) (rest : List B) → AllZip R xs (ys ++ y ∷ rest) → IsBetween R xs ys y
between R [] [] y rest zip = absurd zip
between R [] (b ∷ ys) y rest zip = absurd zip
between R (a ∷ xs) [] y rest zip = record { front = []; x = a; behind = xs; parts = refl; before = tt; here = zip.0 }
between R (a ∷ xs) (b ∷ ys) y rest zip =
    let more = between R xs ys y rest zip.1 in
    record { front = a ∷ more.front; x = more.x; behind = more.behind; parts = ap (λ zs. a ∷ zs) more.parts; before = (zip.0, more.before); here = more.here }

-- no item stands behind the last
none_behind : {A B : Type 0} (R : A → B → Type 0) (front : List A) (x : A) (behind : List A) (ys : List B) (y : B) → AllZip R front ys → AllZip R (front ++ x ∷ behind) (ys ++ y ∷ []) → behind ≡ []
none_behind R [] x [] [] y before zip = refl
none_behind R [] x (a ∷ behind) [] y before zip = absurd zip.1
none_behind R [] x behind (b ∷ ys) y before zip = absurd before
none_behind R (a ∷ front) x behind [] y before zip = absurd before
none_behind R (a ∷ front) x behind (b ∷ ys) y before zip = none_behind R front x behind ys y before.1 zip.1

pub takes_none : (found : Found) → TakesAll found [] found
takes_none found = record { taken = λ manner ls texts so zip. takes_nothing manner ls texts so zip }
  where
    takes_nothing : (manner : Manner) (ls texts : List (List ℕ)) → IsFoundIn manner ls found → AllZip (IsReadText manner) texts [] → IsFoundIn manner (ls ++ lines_in texts) found
    takes_nothing manner ls [] so zip = subst (λ (xs : List (List ℕ)). IsFoundIn manner xs found) (sym (append-nil ls)) so
    takes_nothing manner ls (t ∷ texts) so zip = absurd zip

pub takes_more : (first old new : Found) (pieces : List (Result Piece AllocError)) (piece : Result Piece AllocError) → TakesAll first pieces old → Takes old piece new → TakesAll first (pieces ++ piece ∷ []) new
takes_more first old new pieces piece so one = record {
  taken = λ manner ls texts before zip.
      let R : List ℕ → Result Piece AllocError → Type 0 = IsReadText manner in
      let at = between R texts pieces piece [] zip in
      let last : at.behind ≡ [] = none_behind R at.front at.x at.behind pieces piece at.before (subst (λ (ts : List (List ℕ)). AllZip R ts (pieces ++ piece ∷ [])) at.parts zip) in
      let are : lines_in texts ≡ lines_in at.front ++ lines at.x =
      ap (λ (ts : List (List ℕ)). lines_in ts) (at.parts ∙ ap (λ (ts : List (List ℕ)). at.front ++ at.x ∷ ts) last) ∙ lines_in-append at.front (at.x ∷ []) ∙ ap (λ (xs : List (List ℕ)). lines_in at.front ++ xs) (append-nil (lines at.x)) in
      subst (λ (xs : List (List ℕ)). IsFoundIn manner xs new) (append_assoc ls (lines_in at.front) (lines at.x) ∙ ap (λ (xs : List (List ℕ)). ls ++ xs) (sym are))
      (one.taken manner (ls ++ lines_in at.front) (lines at.x) (so.taken manner ls at.front before at.before) at.here);
}

-- what was found is found still where there is room for more
found_still : (manner : Manner) (ls : List (List ℕ)) (numbers : Numbers) (old new : Details) (refused : Option GraphError) → HasSameNodes old new → IsFoundTo manner ls numbers old refused → IsFoundTo manner ls numbers new refused
found_still manner ls numbers old new None same so = record { nodes = so.nodes; says = so.says; numbers_are = so.numbers_are; has = same.has manner.whole so.nodes so.has }
found_still manner ls numbers old new (Some fault) same so = record { first = so.first }

pub takes_reserved : (old new : Found) (details : Details) (pieces : List (Result Piece AllocError)) → HasSameNodes old.details details → TakesAll (record { numbers = old.numbers; details = details; refused = old.refused }) pieces new → TakesAll old pieces new
takes_reserved old new details pieces same takes = record { taken = λ manner ls texts so zip. takes.taken manner ls texts (found_still manner ls old.numbers old.details details old.refused same so) zip }

pub are_pieces : (manner : Manner) (text : List ℕ) (texts : List (List ℕ)) (pieces : List (Result Piece AllocError)) → lines_in texts ≡ lines text → AllZip (IsReadText manner) texts pieces → ArePieces manner text pieces
are_pieces manner text texts pieces are read = record { texts = texts; are = are; read = read }

-- ---- what was found, at the end

pub found_numbered : (found : Found) (numbered : Numbered) → found.refused ≡ None → HasNumbers found.numbers numbered.paths.keys → numbered.details ≡ found.details → IsFoundNumbered found numbered
found_numbered found numbered none has same = record {
  says = λ manner ls so.
      let says : SayNumbers manner ls found.numbers found.details = said manner ls found none so in
      let keys = has.has (map (λ (n : LineNode). n.path) says.nodes) says.numbers_are in
      record {
        rows = record {
          nodes = says.nodes;
          says = says.says;
          paths_are = keys.same;
          has = subst (λ (d : Details). HasDetails manner.whole says.nodes d) (sym same) says.has;
        };
        distinct = subst (λ (ks : List (List ℕ)). AreDistinct ks) (sym keys.same) keys.distinct;
      };
}

pub found_twice : (found : Found) (fault : GraphError) → found.refused ≡ None → LacksNumbers found.numbers fault → IsFoundFault found fault
found_twice found fault none lacks = record {
  first = λ manner text so.
      let says : SayNumbers manner (lines text) found.numbers found.details = said manner (lines text) found none so in
      twice_fault manner.check text says.nodes fault says.says (lacks.lacks (map (λ (n : LineNode). n.path) says.nodes) says.numbers_are);
}

pub fault_in : (manner : Manner) (text : List ℕ) (fault : GraphError) → IsFaultOf manner (lines text) fault → IsFirstFault manner.check text fault
fault_in manner text fault of = of.first text [] (sym (append-nil (lines text)))

pub found_fault : (found : Found) (fault : GraphError) → found.refused ≡ Some fault → IsFoundFault found fault
found_fault found fault is = record { first = λ manner text so. fault_in manner text fault (refusal manner (lines text) found fault is so) }

pub fault_for_memory : (check : Bool) (text : List ℕ) (fault : GraphError) → fault ≡ bundle.Memory → IsFirstFault check text fault
fault_for_memory check text fault is = subst (λ (e : GraphError). IsFirstFault check text e) (sym is) tt

-- ---- parts of a text

-- what was read of lines, behind which the rest stands
settled : (manner : Manner) (text : List ℕ) (gathered : Gathered) (rest : List ℕ) (refused : Option GraphError) (ls : List (List ℕ)) → IsReadTo manner ls gathered refused → ((behind : List ℕ) → lines (text ++ behind) ≡ ls ++ lines (rest ++ behind)) → IsReadUntil manner text gathered rest refused
settled manner text gathered rest None ls so cut = record { ls = ls; says = so; cut = cut }
settled manner text gathered rest (Some fault) ls so cut = record { first = λ behind. so.first (text ++ behind) (lines (rest ++ behind)) (cut behind) }

pub is_unread : (reached : Reached) → IsReadNowhere reached.gathered → reached.rest.items ≡ [] → IsUnread reached
is_unread reached none empty = record {
  nothing = λ manner.
      settled manner [] reached.gathered reached.rest.items reached.gathered.found.refused [] (none.nowhere manner) (λ behind. ap (λ (xs : List ℕ). lines (xs ++ behind)) (sym empty));
}

pub is_spent : (reached : Reached) → reached.gathered.found.refused ≡ Some bundle.Memory → IsSpent reached
is_spent reached is = record {
  whatever = λ manner text. subst (λ (r : Option GraphError). IsReadUntil manner text reached.gathered reached.rest.items r) (sym is) (record { first = λ behind. tt });
}

pub goes_spent : (manner : Manner) (text : List ℕ) (old new : Reached) → IsSpent new → GoesOn manner text old new
goes_spent manner text old new spent = record { goes = λ before so. spent.whatever manner (before ++ text) }

-- what was read with no refusal
as_far : (manner : Manner) (text : List ℕ) (reached : Reached) → reached.gathered.found.refused ≡ None → IsReading manner text reached → IsReadAsFar manner text reached.gathered reached.rest.items
as_far manner text reached none so = subst (λ (r : Option GraphError). IsReadUntil manner text reached.gathered reached.rest.items r) none so

-- .. up to a refusal
refused_as_far : (manner : Manner) (text : List ℕ) (reached : Reached) (fault : GraphError) → reached.gathered.found.refused ≡ Some fault → IsReading manner text reached → IsRefusedAsFar manner text fault
refused_as_far manner text reached fault is so = subst (λ (r : Option GraphError). IsReadUntil manner text reached.gathered reached.rest.items r) is so

-- .. is what was found in the lines
found_as_far : (manner : Manner) (text : List ℕ) (reached : Reached) → reached.gathered.found.refused ≡ None → (far : IsReadAsFar manner text reached.gathered reached.rest.items) → IsReadIn manner far.ls reached.gathered
found_as_far manner text reached none far = subst (λ (r : Option GraphError). IsReadTo manner far.ls reached.gathered r) (sym none) far.says

pub goes_refused : (manner : Manner) (text : List ℕ) (old : Reached) (fault : GraphError) → old.gathered.found.refused ≡ Some fault → GoesOn manner text old old
goes_refused manner text old fault is = record {
  goes = λ before so.
      let of : IsRefusedAsFar manner before fault = refused_as_far manner before old fault is so in
      subst (λ (r : Option GraphError). IsReadUntil manner (before ++ text) old.gathered old.rest.items r) (sym is)
      (record { first = λ behind. subst (λ (xs : List ℕ). IsFirstFault manner.check xs fault) (sym (append_assoc before text behind)) (of.first (text ++ behind)) });
}

-- the text has no newline
pub goes_within : (manner : Manner) (text : List ℕ) (old new : Reached) → old.gathered.found.refused ≡ None → new.gathered ≡ old.gathered → new.rest.items ≡ old.rest.items ++ text → GoesOn manner text old new
goes_within manner text old new none same grown = record {
  goes = λ before so.
      let far = as_far manner before old none so in
      settled manner (before ++ text) new.gathered new.rest.items new.gathered.found.refused far.ls
      (subst (λ (f : Gathered). IsReadIn manner far.ls f) (sym same) (found_as_far manner before old none far))
      (λ behind. ap (λ (xs : List ℕ). lines xs) (append_assoc before text behind) ∙ far.cut (text ++ behind)
      ∙ ap (λ (xs : List ℕ). far.ls ++ lines xs) (sym (append_assoc old.rest.items text behind)) ∙ ap (λ (xs : List ℕ). far.ls ++ lines (xs ++ behind)) (sym grown));
}

pub read_behind : (manner : Manner) (text : List ℕ) (old new : Reached) (front rest : List ℕ) → old.rest.items ≡ [] → text ≡ front ++ rest → HasWholeLines front → ReadsLines manner front old.gathered new.gathered → new.rest.items ≡ old.rest.items ++ rest
    → IsReadBehind manner text old new
read_behind manner text old new front rest empty parts whole reads grown = record {
  front = front;
  parts = parts ∙ ap (λ (xs : List ℕ). front ++ xs) (sym (grown ∙ ap (λ (xs : List ℕ). xs ++ rest) empty));
  whole = whole;
  lines_on = reads;
}

-- no line had begun before the text
pub goes_behind : (manner : Manner) (text : List ℕ) (old new : Reached) → old.gathered.found.refused ≡ None → old.rest.items ≡ [] → IsReadBehind manner text old new → GoesOn manner text old new
goes_behind manner text old new none empty more = record {
  goes = λ before so.
      let far = as_far manner before old none so in
      let left : List ℕ = new.rest.items in
      let two : List (List ℕ) = lines more.front in
      settled manner (before ++ text) new.gathered left new.gathered.found.refused (far.ls ++ two) (more.lines_on.on far.ls (found_as_far manner before old none far)) (λ tail.
      let whole : old.rest.items ++ (text ++ tail) ≡ more.front ++ (left ++ tail) =
      ap (λ (xs : List ℕ). xs ++ (text ++ tail)) empty ∙ ap (λ (xs : List ℕ). xs ++ tail) more.parts ∙ append_assoc more.front left tail in
      let cut : lines (old.rest.items ++ (text ++ tail)) ≡ two ++ lines (left ++ tail) = ap (λ (xs : List ℕ). lines xs) whole ∙ more.whole.whole (left ++ tail) in
      ap (λ (xs : List ℕ). lines xs) (append_assoc before text tail) ∙ far.cut (text ++ tail) ∙ ap (λ (ls : List (List ℕ)). far.ls ++ ls) cut
      ∙ sym (append_assoc far.ls two (lines (left ++ tail))));
}

-- the text has a newline
pub goes_lines : (manner : Manner) (text : List ℕ) (old mid new : Reached) (end behind : List ℕ) → old.gathered.found.refused ≡ None → text ≡ end ++ behind → IsLineEnd end → ReadsLines manner (old.rest.items ++ end) old.gathered mid.gathered → IsReadBehind manner behind mid new
    → GoesOn manner text old new
goes_lines manner text old mid new end behind none parts ended reads more = record {
  goes = λ before so.
      let far = as_far manner before old none so in
      let rest : List ℕ = old.rest.items in
      let left : List ℕ = new.rest.items in
      let one : List (List ℕ) = lines (rest ++ end) in
      let two : List (List ℕ) = lines more.front in
      settled manner (before ++ text) new.gathered left new.gathered.found.refused ((far.ls ++ one) ++ two) (more.lines_on.on (far.ls ++ one) (reads.on far.ls (found_as_far manner before old none far))) (λ tail.
      let whole : rest ++ (text ++ tail) ≡ (rest ++ end) ++ (more.front ++ (left ++ tail)) =
      ap (λ (xs : List ℕ). rest ++ (xs ++ tail)) (parts ∙ ap (λ (xs : List ℕ). end ++ xs) more.parts)
      ∙ ap (λ (xs : List ℕ). rest ++ xs) (append_assoc end (more.front ++ left) tail ∙ ap (λ (xs : List ℕ). end ++ xs) (append_assoc more.front left tail)) ∙ sym (append_assoc rest end (more.front ++ (left ++ tail))) in
      let cut : lines (rest ++ (text ++ tail)) ≡ one ++ (two ++ lines (left ++ tail)) =
      ap (λ (xs : List ℕ). lines xs) whole ∙ (line_ends rest end ended).whole (more.front ++ (left ++ tail)) ∙ ap (λ (ls : List (List ℕ)). one ++ ls) (more.whole.whole (left ++ tail)) in
      ap (λ (xs : List ℕ). lines xs) (append_assoc before text tail) ∙ far.cut (text ++ tail) ∙ ap (λ (ls : List (List ℕ)). far.ls ++ ls) cut
      ∙ sym (append_assoc far.ls one (two ++ lines (left ++ tail))) ∙ sym (append_assoc (far.ls ++ one) two (lines (left ++ tail))));
}

-- ---- the end

-- the lines of the text are those that were read, and the rest's
all_lines : (manner : Manner) (text : List ℕ) (gathered : Gathered) (rest : List ℕ) (far : IsReadAsFar manner text gathered rest) → lines text ≡ far.ls ++ lines rest
all_lines manner text gathered rest far = ap (λ (xs : List ℕ). lines xs) (sym (append-nil text)) ∙ far.cut [] ∙ ap (λ (xs : List ℕ). far.ls ++ lines xs) (append-nil rest)

-- all lines were read
read_all : (manner : Manner) (text : List ℕ) (reached : Reached) (gathered : Gathered) → reached.gathered.found.refused ≡ None → ReadsLines manner reached.rest.items reached.gathered gathered → IsReading manner text reached → IsReadIn manner (lines text) gathered
read_all manner text reached gathered none reads so =
    let far = as_far manner text reached none so in
    subst (λ (ls : List (List ℕ)). IsReadIn manner ls gathered) (sym (all_lines manner text reached.gathered reached.rest.items far)) (reads.on far.ls (found_as_far manner text reached none far))

pub told_by : (manner : Manner) (reached : Reached) (gathered : Gathered) (numbered : Numbered) → reached.gathered.found.refused ≡ None → ReadsLines manner reached.rest.items reached.gathered gathered → IsReadNumbered gathered numbered → IsToldBy manner reached numbered
told_by manner reached gathered numbered none reads by = record { says = λ text so. by.says manner (lines text) (read_all manner text reached gathered none reads so) }

pub fault_by : (manner : Manner) (reached : Reached) (gathered : Gathered) (fault : GraphError) → reached.gathered.found.refused ≡ None → ReadsLines manner reached.rest.items reached.gathered gathered → IsReadFault gathered fault → IsFaultBy manner reached fault
fault_by manner reached gathered fault none reads by = record { first = λ text so. by.first manner text (read_all manner text reached gathered none reads so) }

pub fault_before : (manner : Manner) (reached : Reached) (fault : GraphError) → reached.gathered.found.refused ≡ Some fault → IsFaultBy manner reached fault
fault_before manner reached fault is = record {
  first = λ text so. subst (λ (xs : List ℕ). IsFirstFault manner.check xs fault) (append-nil text) ((refused_as_far manner text reached fault is so).first []);
}

pub fault_of_memory : (manner : Manner) (reached : Reached) (fault : GraphError) → fault ≡ bundle.Memory → IsFaultBy manner reached fault
fault_of_memory manner reached fault is = record { first = λ text so. fault_for_memory manner.check text fault is }

-- ---- what the reader shows

-- the reading of a reader that reads in this manner
abbrev pub shown_as : Manner → List ℕ → ReadingLines
shown_as manner text = record { manner = manner; text = text }

pub says_so_far : (reading : ReadingLines) (text : List ℕ) (reached : Reached) (numbered : Numbered) (manner : Manner) → shown_as manner text ≡ reading → IsReading manner text reached → IsToldBy manner reached numbered → SayNumbered reading.manner (lines reading.text) numbered
says_so_far reading text reached numbered manner shown so told = subst (λ (r : ReadingLines). SayNumbered r.manner (lines r.text) numbered) shown (told.says text so)

pub fault_so_far : (reading : ReadingLines) (text : List ℕ) (reached : Reached) (fault : GraphError) (manner : Manner) → shown_as manner text ≡ reading → IsReading manner text reached → IsFaultBy manner reached fault → IsFirstFault reading.manner.check reading.text fault
fault_so_far reading text reached fault manner shown so by = subst (λ (r : ReadingLines). IsFirstFault r.manner.check r.text fault) shown (by.first text so)
