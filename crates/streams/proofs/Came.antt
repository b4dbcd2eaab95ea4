-- Bytes that come behind others in a buffer.
use Rattle.std.proofs.Common.{◌≡◌, ◌++◌, ◌+◌, ◌-◌, ◌/◌, ◌*◌, ◌%◌, ◌≤◌, ℕ, List, length, take, drop, sym, ap, ◌∙◌, subst, arith}
use Rattle.std.proofs.lemmas.List.{length-take-le, length-drop, take-append-le, take_all, take_rest, drop-take}
use Rattle.std.proofs.Math.Seq.{take-append-add, take-add}
use Rattle.std.specs.Prelude.{Option}
use Rattle.std.specs.Io.KnownBytes.{Consumes}
use Rattle.std.specs.List.{copy_within}
use Rattle.layout.specs.Layout.{order_bytes}
use Rattle.streams.specs.Reading.{cut_short, ComesBehind}
use borrow.Rule.Slice.PartMut.{put_mid}

-- the part of a buffer behind its first d bytes is handed back with n new bytes at its start
pub came_more : (d n : ℕ) (xs ys : List ℕ) → d ≤ length xs → n ≤ length ys → take (d + n) (put_mid d (length xs - d) xs ys) ≡ take d xs ++ take n ys
came_more d n xs ys h k =
    let e : d + n ≡ length (take d xs) + n = omega (arith, length-take-le d xs h) in
    let rest : List ℕ = drop (length xs - d) (drop d xs) in
    ap (λ m. take m (take d xs ++ (ys ++ rest))) e ∙ take-append-add (take d xs) (ys ++ rest) n ∙ ap (λ l. take d xs ++ l) (take-append-le n ys rest k)

-- the first k bytes of the part behind the first d
pub take_behind : (d k : ℕ) (xs : List ℕ) → k ≤ length xs - d → take (d + k) xs ≡ take d xs ++ take k (take (length xs - d) (drop d xs))
take_behind d k xs h = take-add d k xs ∙ ap (λ l. take d xs ++ take k l) (sym (take_rest xs d))

-- a read behind the first d of len bytes of a buffer
pub came_behind : (old left : Option (List ℕ)) (d n len : ℕ) (xs ys : List ℕ) → length xs ≡ len → d ≤ len → n ≤ length ys → Consumes old left (take n ys) → ComesBehind old left (take d xs) (take (d + n) (put_mid d (len - d) xs ys))
came_behind old left d n len xs ys long h k c = (take n ys, c, subst (λ m. take (d + n) (put_mid d (m - d) xs ys) ≡ take d xs ++ take n ys) long (came_more d n xs ys (omega (arith, long, h)) k))

-- what is cut short of the first `size` bytes of a buffer, copied to its start
pub moved_down : (size : ℕ) (xs : List ℕ) → size ≤ length xs → take (size % order_bytes) (copy_within xs (size - size % order_bytes) size 0) ≡ cut_short (take size xs)
moved_down size xs h =
    let k : ℕ = size % order_bytes in
    let at : ℕ = size - k in
    let tail : List ℕ = drop at xs in
    let n : size - at ≡ k = omega arith in
    let long : k ≤ length (take k tail) = omega (arith, length-take-le k tail (omega (arith, length-drop at xs, h))) in
    let front : take k (copy_within xs at size 0) ≡ take k tail = ap (λ m. take k (take 0 xs ++ (take m tail ++ drop (0 + m) xs))) n ∙ take-append-le k (take k tail) (drop (0 + k) xs) long ∙ take_all k (take k tail) (omega (arith, length-take-le k tail (omega (arith, length-drop at xs, h)))) in
    let seam : length (take size xs) / order_bytes * order_bytes ≡ at = omega (arith, length-take-le size xs h) in
    let whole : at + k ≡ size = omega arith in
    front ∙ sym (ap (λ m. drop m (take size xs)) seam ∙ ap (λ m. drop at (take m xs)) (sym whole) ∙ drop-take at k xs)
