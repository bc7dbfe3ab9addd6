-- What a read into a part of a slice leaves at the slice's front.
use Rattle.std.proofs.Common.{◌≡◌, ℕ, ◌+◌, ◌≤◌, List, ◌++◌, length, take, drop, sym, ap, ◌∙◌, le_refl, drop_at, length-take-le}
use Rattle.std.proofs.lemmas.Slice.{take-put_mid_below}
use borrow.Rule.Slice.PartMut.{put_mid, post_of}
use lib.Seq.{take-add, take-append-le}

part : (a k n : ℕ) (xs ys : List ℕ) → a ≤ length xs → n ≤ length ys → take n (drop a (put_mid a k xs ys)) ≡ take n ys
part a k n xs ys within fits =
    ap (take n) (drop_at (take a xs) (ys ++ post_of a k xs) a (length-take-le a xs within)) ∙ take-append-le n ys (post_of a k xs) fits

-- the first bytes of the part go on what stood before it
pub front_grows : (a k n : ℕ) (xs ys : List ℕ) → a ≤ length xs → n ≤ length ys → take a xs ++ take n ys ≡ take (a + n) (put_mid a k xs ys)
front_grows a k n xs ys within fits =
    ap (λ l. l ++ take n ys) (sym (take-put_mid_below a k xs ys a (le_refl a) within))
    ∙ ap (λ l. take a (put_mid a k xs ys) ++ l) (sym (part a k n xs ys within fits))
    ∙ sym (take-add a n (put_mid a k xs ys))
