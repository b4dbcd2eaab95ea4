-- The numbers of the first links of a path, and one more.
use Rattle.std.proofs.Common.{◌≡◌, ◌++◌, ◌+◌, ◌≤◌, ◌<◌, ℕ, List, [], length, get_or, take, ◌∙◌, ap, sym}
use Rattle.std.proofs.lemmas.List.{take_more, flat_map_more}
use Rattle.std.proofs.lemmas.List.Folds.{length-flat_map-take}
use Rattle.std.specs.List.{flat_map}
use Rattle.std.specs.Prelude.{codes}
use Rattle.report.specs.Decimal.{decimal}
use Rattle.report.specs.Line.{numbers}

pub one_link_more : (links : List ℕ) (i : ℕ) → i < length links → numbers (take (i + 1) links) ≡ numbers (take i links) ++ (codes " " ++ decimal (get_or links i 0))
unfolding numbers
one_link_more links i h =
    let f : ℕ → List ℕ = λ link. codes " " ++ decimal link in
    ap (flat_map f) (take_more links i 0 h) ∙ sym (flat_map_more f [] (take i links) (get_or links i 0))

pub room_for_one : (links : List ℕ) (i : ℕ) → i < length links → length (numbers (take i links)) + length (codes " " ++ decimal (get_or links i 0)) ≤ length (numbers links)
unfolding numbers
room_for_one links i h = length-flat_map-take (λ link. codes " " ++ decimal link) links i 0 h
