-- The gauge: one motion carries each cluster, and distances are kept.
pub mod Isometry
pub mod Axis
pub mod Carried
pub mod Pairs
pub mod Turn
pub mod Rotate
pub mod Level
pub mod Mirror
pub mod Centres
pub mod Hangs
pub mod Cluster
pub mod HungCluster
pub mod AllClusters
pub mod AfterGauge
