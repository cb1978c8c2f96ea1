-- A file to which bytes were only added since its last sync.
use Rattle.std.proofs.Common.{◌≡◌, ⊎_elim, ℕ, ◌+◌, ◌<◌, ◌≤◌, List, [], ◌∷◌, ◌++◌, length, take, drop, refl, sym, ◌∙◌, ap, subst, arith}
use Rattle.std.proofs.lemmas.List.{ext_get_or, get_or-take, length-take-le, take_all, drop_all, append-nil, take-append-le, length-take}
use Rattle.disk_model.specs.File.{File, Step, Wrote, after_steps, written, IsImage}
use Rattle.disk_model.specs.Grew.{OnlyGrew}

-- nothing was asked for yet
pub grew_none : (bytes : List ℕ) → OnlyGrew bytes [] bytes
grew_none bytes = record {
  whole = refl;
  meant = λ w is. subst (λ (v : List ℕ). take (length v) bytes ≡ v) (sym is) (take_all (length bytes) bytes (omega arith));
  kept = λ i none. absurd none;
  shortest = refl;
  front = take_all (length bytes) bytes (omega arith);
}

pub written_at_end : (bytes more : List ℕ) → written (length bytes) more bytes ≡ bytes ++ more
written_at_end bytes more =
    ap (λ (l : List ℕ). l ++ more ++ drop (length bytes + length more) bytes) (take_all (length bytes) bytes (omega arith))
    ∙ ap (λ (l : List ℕ). bytes ++ more ++ l) (drop_all (length bytes + length more) bytes (omega arith))
    ∙ append-nil (bytes ++ more)

front_longer : (w bytes more : List ℕ) → take (length w) bytes ≡ w → take (length w) (bytes ++ more) ≡ w
front_longer w bytes more is =
    let short : length w ≤ length bytes = omega (arith, ap length is, length-take (length w) bytes) in
    take-append-le (length w) bytes more short ∙ is

-- one write more, at the end
pub grew_more : (synced bytes more : List ℕ) (steps : List Step) → OnlyGrew synced steps bytes → OnlyGrew synced (Wrote (length bytes) more ∷ steps) (bytes ++ more)
grew_more synced bytes more steps grew = record {
  whole = end_is;
  meant = λ w is. ⊎_elim (λ all. subst (λ (v : List ℕ). take (length v) (bytes ++ more) ≡ v) (sym (all ∙ end_is)) (take_all _ (bytes ++ more) (omega arith))) (λ older. front_longer w bytes more (grew.meant w older)) is;
  kept = λ i is. ⊎_elim (λ here. omega (arith, here.0, low)) (λ older. grew.kept i older) is;
  shortest = grew.shortest;
  front = front_longer synced bytes more grew.front;
}
  where
    end_is : written (length bytes) more (after_steps synced steps) ≡ bytes ++ more
    end_is = ap (λ (l : List ℕ). written (length bytes) more l) grew.whole ∙ written_at_end bytes more

    low : length synced ≤ length bytes
    low = omega (arith, ap length grew.front, length-take (length synced) bytes)

-- a crash keeps what was synced
pub image_front : (file : File) (whole image : List ℕ) → OnlyGrew file.synced file.steps whole → IsImage file image → take (length file.synced) image ≡ file.synced
image_front file whole image grew is =
    let long : length file.synced ≤ length image = omega (arith, is.no_shorter, grew.shortest) in
    ext_get_or 0 _ _ (length-take-le (length file.synced) image long)
    (λ i lt. let below : i < length file.synced = omega (arith, length-take-le (length file.synced) image long) in
    get_or-take (length file.synced) image i 0 below ∙ is.kept i (omega arith) below (λ in_range. omega (arith, grew.kept i in_range)))
