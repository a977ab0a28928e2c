use Rattle.fm_claims.proofs.goals.goal_for.Goals as goal

pub returns-in-Member : goal.returns-in-Member
returns-in-Member c = λ ps. rw c.in-Member.is (c.member_goal.ensures ps)

pub returns-in-Resolution : goal.returns-in-Resolution
returns-in-Resolution c = λ ps. rw c.in-Resolution.is (c.resolution_goal.ensures ps)

pub returns-in-ExtOf : goal.returns-in-ExtOf
returns-in-ExtOf c = λ ps. rw c.in-ExtOf.is (c.ext_goal.ensures ps)

pub returns-in-Root : goal.returns-in-Root
returns-in-Root c = λ ps. rw c.in-Root.is (c.root_goal.ensures ps)

pub returns-in-Zero : goal.returns-in-Zero
returns-in-Zero c = λ ps. rw c.in-Zero.is (c.zero_goal.ensures ps)

pub returns-in-Class : goal.returns-in-Class
returns-in-Class c = λ ps. rw c.in-Class.is (rw c.as_slice.ensures at (c.class_goal.ensures ps))

pub returns-in-Map : goal.returns-in-Map
returns-in-Map c = λ ps. rw c.in-Map.is (c.map_goal.ensures ps)

pub returns-in-Support : goal.returns-in-Support
returns-in-Support c = λ ps. rw c.in-Support.is (c.support_goal.ensures ps)

pub returns-in-Invert : goal.returns-in-Invert
returns-in-Invert c = λ ps. rw c.in-Invert.is (c.invert_goal.ensures ps)
