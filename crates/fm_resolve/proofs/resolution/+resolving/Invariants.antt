use Rattle.fm_resolve.proofs.resolution.+resolving.Given as goal

-- proposed from what the function passes where it calls itself
abbrev pub decreases-resolving : goal.decreases-resolving
decreases-resolving l = l.count
