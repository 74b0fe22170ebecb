use Rattle.std.proofs.Common.{◌≡◌, ℕ, zero, suc, ◌<◌, ◌≤◌, ◌+◌, nat_lt, [], ◌∷◌, take, ◌∙◌, arith}
use Rattle.std.specs.Prelude.{if◌then◌else◌}
use Rattle.pix_el.specs.Pixel.{channel}
use Rattle.pix_bytes.specs.FourChannels.{as_list}
use Rattle.pix_bytes.specs.BitmapFormats.{sample_at}
use Rattle.pix_bytes.proofs.FourChannels.{same_made, channel_or_max}
use Rattle.pix_bytes.proofs.bitmap.four_channels.write_four.Goals as goal

each : (max a b c d count all : ℕ) (f : ℕ → ℕ) → (0 < all → f 0 ≡ (if nat_lt 0 count then a else max)) → (1 < all → f 1 ≡ (if nat_lt 1 count then b else max))
    → (2 < all → f 2 ≡ (if nat_lt 2 count then c else max)) → (3 < all → f 3 ≡ (if nat_lt 3 count then d else max)) → all ≤ 4
    → (k : ℕ) → k < all → f k ≡ channel max (take count (a ∷ b ∷ c ∷ d ∷ [])) k
each max a b c d count all f e0 e1 e2 e3 few zero h = e0 h ∙ channel_or_max max count 0 (a ∷ b ∷ c ∷ d ∷ [])
each max a b c d count all f e0 e1 e2 e3 few (suc zero) h = e1 h ∙ channel_or_max max count 1 (a ∷ b ∷ c ∷ d ∷ [])
each max a b c d count all f e0 e1 e2 e3 few (suc (suc zero)) h = e2 h ∙ channel_or_max max count 2 (a ∷ b ∷ c ∷ d ∷ [])
each max a b c d count all f e0 e1 e2 e3 few (suc (suc (suc zero))) h = e3 h ∙ channel_or_max max count 3 (a ∷ b ∷ c ∷ d ∷ [])
each max a b c d count all f e0 e1 e2 e3 few (suc (suc (suc (suc k)))) h = absurd (omega (arith, h, few))

pub returns : goal.returns
returns g c =
    let max = g.C.Channel.max in
    let v = g.C.Channel.number in
    let count = c.args.count in
    let all : ℕ = count + c.args.spare in
    let p = c.args.pixel in
    let one = v p.one in
    let two = v p.two in
    let three = v p.three in
    let four = v p.four in
    let e0 = c.write_sample-4.ensures.others 0 (omega arith) ∙ c.write_sample-3.ensures.others 0 (omega arith) ∙ c.write_sample-2.ensures.others 0 (omega arith) in
    let e1 = c.write_sample-4.ensures.others 1 (omega arith) ∙ c.write_sample-3.ensures.others 1 (omega arith) in
    let e2 = c.write_sample-4.ensures.others 2 (omega arith) in
    same_made (sample_at max c.write_sample-4.new.bytes) (channel max (take count (as_list v p))) all
    (λ k h. each max one two three four count all (sample_at max c.write_sample-4.new.bytes)
    (λ h. e0 ∙ c.write_sample.ensures.own h) (λ h. e1 ∙ c.write_sample-2.ensures.own h) (λ h. e2 ∙ c.write_sample-3.ensures.own h) c.write_sample-4.ensures.own c.requires.few k h)
